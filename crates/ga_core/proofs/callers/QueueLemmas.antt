-- A queue: so many items of a ring, from the place of the oldest on.
use Rattle.ga_core.proofs.callers.RingLemmas.{length-turned, ring-next, ring-round, turned as ring}
use Rattle.std.proofs.Common.{◌≡◌, ℕ, inl, inr, ◌+◌, ◌-◌, ◌%◌, ◌<◌, ◌≤◌, ◌∙◌, List, [], ◌∷◌, ◌++◌, ap, arith, drop}
use Rattle.std.proofs.Common.{get_or, length, length-drop, subst, sym, take, ◌⊎◌}
use Rattle.std.proofs.Math.ListN.{length-set, set}
use Rattle.std.proofs.Math.Nat.{add-mod_left, mod-eq_of_lt}
use Rattle.std.proofs.Math.Seq.{take-set-lt}
use Rattle.std.proofs.lemmas.Bool.{cases_lt}
use Rattle.std.proofs.lemmas.List.{drop-set-add, drop-set-lt, drop-take, set-append_left, set-append_right, set-get_or}
use Rattle.std.proofs.lemmas.List.{take-append-le, take-set-le, take_more_set}

module _ {X : Type 0} where
  module _ (slots : List X) (head count : ℕ) (x : X) (place : ℕ) where
    -- an item is written behind the others, before the end of the slots
    pub posted_on : place ≡ head + count → place < length slots
        → take (count + 1) (drop head (set slots place x) ++ take head (set slots place x))
        ≡ take count (drop head slots ++ take head slots) ++ x ∷ []
    posted_on is inside =
        let room : count < length (drop head slots) = omega (arith, length-drop head slots) in
        let more : count < length (ring slots head) = omega (arith, length-turned slots head (omega arith)) in
        let front = set-append_left (drop head slots) (take head slots) count x room in
        rw (is, drop-set-add head slots count x, take-set-le head slots (head + count) x (omega arith), ← front)
        (take_more_set (ring slots head) count x more)

    -- the same from the front on
    pub posted_back : place + length slots ≡ head + count → head < length slots → count < length slots
        → take (count + 1) (drop head (set slots place x) ++ take head (set slots place x))
        ≡ take count (drop head slots ++ take head slots) ++ x ∷ []
    posted_back is inside room =
        let long : length (drop head slots) ≡ length slots - head = length-drop head slots in
        let low : place < head = omega arith in
        let at : place ≡ count - (length slots - head) = omega arith in
        let behind : length slots - head ≤ count = omega arith in
        let more : count < length (ring slots head) = omega (arith, length-turned slots head (omega arith)) in
        let back = set-append_right (drop head slots) (take head slots) (length slots - head) count x long behind in
        rw (drop-set-lt head slots place x low, take-set-lt head slots place x low, at, ← back)
        (take_more_set (ring slots head) count x more)

  -- an item is written behind the others, at the remainder of its place
  pub posted_round : (slots : List X) (head count : ℕ) (x : X) (n : ℕ) → n ≡ length slots → head < n → count < n
      → take (count + 1) (drop head (set slots ((head + count) % n) x) ++ take head (set slots ((head + count) % n) x))
      ≡ take count (drop head slots ++ take head slots) ++ x ∷ []
  posted_round slots head count x n is inside room = by (cases_lt (head + count) n) where
    by : (head + count < n) ⊎ (n ≤ head + count)
        → take (count + 1) (ring (set slots ((head + count) % n) x) head) ≡ take count (ring slots head) ++ x ∷ []
    by (inl low) =
        let same : (head + count) % n ≡ head + count = mod-eq_of_lt low in
        posted_on slots head count x ((head + count) % n) same (omega (arith, same, is, low))
    by (inr high) =
        let split : head + count ≡ n + (head + count - n) = omega (arith, high) in
        let same : (head + count) % n ≡ head + count - n = ap (λ m. m % n) split ∙ add-mod_left n (head + count - n)
        ∙ mod-eq_of_lt (omega (arith, inside, room)) in
        posted_back slots head count x ((head + count) % n) (omega (arith, same, is, high)) (omega (arith, is, inside))
        (omega (arith, is, room))

  -- the oldest item is taken, and x is left in its place
  taken : (slots : List X) (head count : ℕ) (x : X) → head < length slots → 0 < count → count ≤ length slots
      → take (count - 1) (ring (set slots head x) (head + 1)) ≡ drop 1 (take count (ring slots head))
  taken slots head count x inside some few =
      let all = ring slots head in
      let one : 1 + (count - 1) ≡ count = omega arith in
      let long = length-turned slots head (omega arith) in
      let enough : count - 1 ≤ length (drop 1 all) = omega (arith, length-drop 1 all, long) in
      rw (ring-next slots head x inside) (take-append-le (count - 1) (drop 1 all) (x ∷ []) enough
      ∙ (sym (drop-take 1 (count - 1) all) ∙ ap (λ k. drop 1 (take k all)) one))

  -- what holds with any item in the oldest's place holds with the oldest there
  kept : (slots : List X) (head count next : ℕ)
      → ((x : X) → take (count - 1) (ring (set slots head x) next) ≡ drop 1 (take count (ring slots head)))
      → 0 < count → count ≤ length slots → take (count - 1) (ring slots next) ≡ drop 1 (take count (ring slots head))
  kept [] head count next left some few = absurd (omega (arith, some, few))
  kept (x ∷ slots) head count next left some few =
      subst (λ all. take (count - 1) (ring all next) ≡ drop 1 (take count (ring (x ∷ slots) head)))
      (set-get_or (x ∷ slots) head x) (left (get_or (x ∷ slots) head x))

  module _ (slots : List X) (head count next : ℕ) where
    pub left_on : (x : X) → next ≡ head + 1 → next < length slots → 0 < count → count ≤ length slots
        → take (count - 1) (drop next (set slots head x) ++ take next (set slots head x))
        ≡ drop 1 (take count (drop head slots ++ take head slots))
    left_on x step inside some few = rw step (taken slots head count x (omega arith) some few)

    -- from the last place to the first
    pub left_back : (x : X) → next ≡ 0 → head + 1 ≡ length slots → 0 < count → count ≤ length slots
        → take (count - 1) (drop next (set slots head x) ++ take next (set slots head x))
        ≡ drop 1 (take count (drop head slots ++ take head slots))
    left_back x start end some few =
        let round = ring-round (set slots head x) (head + 1) (omega (arith, end, length-set slots head x)) in
        rw start (ap (take (count - 1)) round ∙ taken slots head count x (omega arith) some few)

    -- the same where the oldest item stays in its place
    pub took_on : next ≡ head + 1 → next < length slots → 0 < count → count ≤ length slots
        → take (count - 1) (drop next slots ++ take next slots) ≡ drop 1 (take count (drop head slots ++ take head slots))
    took_on step inside some few = kept slots head count next (λ x. left_on x step inside some few) some few

    pub took_back : next ≡ 0 → head + 1 ≡ length slots → 0 < count → count ≤ length slots
        → take (count - 1) (drop next slots ++ take next slots) ≡ drop 1 (take count (drop head slots ++ take head slots))
    took_back start end some few = kept slots head count next (λ x. left_back x start end some few) some few

-- an item written into a queue, and the oldest taken
pub ruleset queue = (posted_on, posted_back, posted_round, took_on, took_back, left_on, left_back)
