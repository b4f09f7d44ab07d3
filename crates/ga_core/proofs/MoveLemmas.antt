-- Items moved one by one from the front of a list.
use Rattle.std.proofs.Common.{◌≡◌, ℕ, ◌+◌, ◌<◌, List, [], ◌∷◌, ◌++◌, take, drop, ap, ◌∙◌, sym, arith, length}
use Rattle.std.proofs.Common.{slice_index_or, slice_set, subst, take-add, All}
use Rattle.std.proofs.lemmas.Grind.{drop_more_same}
use Rattle.std.proofs.lemmas.List.Elements.{All-append, All-cons, All-nil}
use Rattle.std.proofs.lemmas.List.{drop-set-lt, drop_more, take_more_set}

module _ {T : Type 0} where
  -- the items up to a slot, and the next
  pub take-one_more : (n : ℕ) (items others : List T) (item : T) → drop n items ≡ item ∷ others
      → take (n + 1) items ≡ take n items ++ item ∷ []
  take-one_more n items others item here = take-add n 1 items ∙ ap (λ rest. take n items ++ take 1 rest) here

  -- what was taken from a slot is what stood there
  pub this-here : (n : ℕ) (left : List T) (there item : T) → there ≡ slice_index_or left n there
      → item ≡ slice_index_or left n there → item ≡ slice_index_or left n item
  this-here n left there item is value = subst (λ x. x ≡ slice_index_or left n x) (is ∙ sym value) is

  -- the next item of those that are left is the next of all
  pub next-here : (n : ℕ) (items left : List T) (item : T) → n < length left → item ≡ slice_index_or left n item
      → drop n left ≡ drop n items → drop n items ≡ item ∷ drop (n + 1) left
  next-here n items left item some this behind = sym behind
      ∙ (drop_more left n item some ∙ ap (λ x. x ∷ drop (n + 1) left) (sym this))

  -- the first n items were moved, and the others are left in their slots
  abbrev pub MovedSoFar : ℕ → List T → List T → List T → Type 0
  MovedSoFar n items left moved = (moved ≡ take n items) × (drop n left ≡ drop n items)

  -- one item more moved out of a list, behind those before it
  pub pushed-next : (n : ℕ) (items left before after : List T) (item blank : T) → n < length left
      → item ≡ slice_index_or left n item → MovedSoFar n items left before → after ≡ before ++ item ∷ []
      → MovedSoFar (n + 1) items (slice_set left n blank) after
  pushed-next n items left before after item blank some this moved grows =
      let more = take-one_more n items _ item (next-here n items left item some this moved.1) in
      let behind = drop-set-lt (n + 1) left n blank (omega arith) ∙ drop_more_same left items n moved.1 in
      (grows ∙ (ap (λ l. l ++ item ∷ []) moved.0 ∙ sym more), behind)

  -- a property of what is left in the slots before, and of what is left in this one
  pub left-next : (P : T → Type 0) (n : ℕ) (left : List T) (blank : T) → n < length left → All P (take n left) → P blank
      → All P (take (n + 1) (slice_set left n blank))
  left-next P n left blank some before here =
      rw (take_more_set left n blank some) (All-append P (take n left) _ before (All-cons P blank [] here (All-nil P)))
