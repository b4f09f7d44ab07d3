-- Pieces, joined one by one.
use Rattle.std.proofs.Common.{◌≡◌, ℕ, ◌+◌, ◌<◌, List, [], ◌++◌, length, take, drop, get_or, ap, sym, append_assoc}
use Rattle.std.proofs.Common.{append-nil, flat_map}
use Rattle.std.proofs.lemmas.Grind.{flat_map-append}
use Rattle.std.proofs.lemmas.List.{take-append-drop, take_more}
use Rattle.std.proofs.lemmas.List.Concat.{flat_map-cons}

module _ {P X : Type 0} (items_of : P → List X) (pieces : List P) (i : ℕ) (d : P) (below : i < length pieces) where
  -- one piece more
  pub pieces-more : flat_map items_of (take (i + 1) pieces) ≡ flat_map items_of (take i pieces)
      ++ items_of (get_or pieces i d)
  pieces-more = rw (take_more pieces i d below, flat_map-append items_of (take i pieces), flat_map-cons items_of _ [])
      (ap (λ k. flat_map items_of (take i pieces) ++ k) (append-nil _))

  -- all pieces, cut at one of them
  pub pieces-cut : flat_map items_of pieces ≡ flat_map items_of (take i pieces)
      ++ (items_of (get_or pieces i d) ++ flat_map items_of (drop (i + 1) pieces))
  pieces-cut =
      let whole = ap (flat_map items_of) (sym (take-append-drop (i + 1) pieces)) in
      rw (flat_map-append items_of (take (i + 1) pieces), pieces-more, append_assoc (flat_map items_of (take i pieces))) at
      whole
