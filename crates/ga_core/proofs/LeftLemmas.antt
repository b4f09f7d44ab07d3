-- What is left of a list between two slots, when something is taken from either end.
use Rattle.arrayvec.proofs.IterLemmas.{slice_range_first, slice_range_last}
use Rattle.ga_core.proofs.SlotLemmas.{refill-long}
use Rattle.ga_views.proofs.PartLemmas.{part-before, part-behind}
use Rattle.ga_views.specs.Parts.{part_set}
use Rattle.std.proofs.Common.{◌≡◌, ℕ, ◌+◌, ◌-◌, ◌%◌, ◌<◌, ◌≤◌, List, [], ◌∷◌, ◌++◌, length, drop, take}
use Rattle.std.proofs.Common.{ap, ◌∙◌, arith, get_or, slice_get, slice_set, length-append, length-drop, length-take}
use Rattle.std.proofs.Common.{Option, None, Some, refl, sym, mod-eq_of_lt}
use Rattle.std.proofs.lemmas.List.{append-nil, nil_from_length}
use Rattle.std.proofs.lemmas.List.{drop-drop, drop-take, drop_more, get_or-take, length-take-le, take-take, take_all}
use Rattle.std.specs.Iterator.{YieldsLast}
use Rattle.std.specs.List.{refill, slice_range}

module _ {T : Type 0} where
  -- where fewer are passed than are left, one stays behind them
  pub left-stays : {n count : ℕ} (left behind : List T) → n < count → count ≡ length left → behind ≡ drop n left
      → 0 < length behind
  left-stays {n} left behind few same is = omega (arith, length-drop n left, ap length is)

  -- one fewer is left, from either end
  pub one_gone : (left : List T) (item : T) (others : List T) → left ≡ item ∷ others → length others < length left
  one_gone left item others step = omega (arith, ap length step)

  -- where none is left, all were moved
  pub all_moved : (moved left all : List T) → moved ++ left ≡ all → length left ≡ 0 → moved ≡ all
  all_moved moved left all so_far none = sym (append-nil moved) ∙ (rw (nil_from_length left none) at so_far)

  -- where none is passed, all are left
  pub left-whole : (left : List T) (passed : ℕ) → passed ≤ 0 → left ≡ take (length left - passed) left
  left-whole left passed none = sym (take_all (length left - passed) left (omega arith))

  slice_get-seam : (rest : List T) (item : T) → slice_get (rest ++ item ∷ []) (length rest) ≡ Some item
  slice_get-seam [] item = refl
  slice_get-seam (x ∷ rest) item = slice_get-seam rest item

  -- a step from the back replies with the last item, or with `None` where there is none
  pub left-end : (items : List T) (reply : Option T) (rest : List T) → YieldsLast (λ all. all) items reply rest
      → reply ≡ slice_get items (length items - 1)
  left-end items None rest ended = ap (λ all. slice_get all (length all - 1)) (sym ended.0)
  left-end items (Some item) rest came =
      let last : length items - 1 ≡ length rest = omega (arith, length-append rest (item ∷ []), ap length came) in
      sym (ap (slice_get items) last ∙ (ap (λ all. slice_get all (length rest)) came ∙ slice_get-seam rest item))

-- What is left lies between the two slots, in at most 65536 items.
module _ {T : Type 0} {front back n : ℕ} (items left : List T)
    (lies : (front ≤ back) × (back ≤ length items) × (length items ≡ n) × (n ≤ 65536))
    (shown : slice_range items front back ≡ left) where
  -- how many are left
  pub count : length left ≡ back - front
  count = omega (arith, ap length shown, length-take (back - front) (drop front items), length-drop front items)

  -- where the slots have met, nothing is left, and before that something is
  pub left-none : back ≤ front → left ≡ []
  left-none met = let none : back - front ≡ 0 = omega arith in rw (← shown, none) refl

  pub left-more : front < back → 0 < length left
  left-more some = omega (arith, count)

  -- where an item is left, so are the slots at both ends
  pub left-some : 0 < length left → (front < back) × (front < length items) × (back - 1 < length items)
  left-some some = let slot : front < back = omega (arith, count) in (slot, omega arith, omega arith)

  -- the first was taken, and a blank stands in its slot
  pub left-first : {after : List T} {item : T} → 0 < length left → item ≡ get_or items front item
      → (blank : T) × (after ≡ slice_set items front blank) → left ≡ item ∷ slice_range after (front + 1) back
  left-first {item = item} some here written =
      rw (← shown, written.1) (slice_range_first items front back item written.0 (left-some some).0 lies.1 here)

  -- the last was taken, and a blank stands in its slot
  pub left-last : {after : List T} {item : T} → 0 < length left → item ≡ get_or items (back - 1) item
      → (blank : T) × (after ≡ slice_set items (back - 1) blank)
      → left ≡ slice_range after front (back - 1) ++ item ∷ []
  left-last {item = item} some here written =
      rw (← shown, written.1) (slice_range_last items front back item written.0 (left-some some).0 lies.1 here)

  -- the item behind those passed is the last of the part that holds both. Its first slot is written as a remainder.
  pub left-item : (passed : ℕ) (item : T) (part : List T) → passed < length left
      → part ≡ take (passed + 1) (drop (front % 65536) items) → item ≡ get_or part (length part - 1) item
      → drop passed left ≡ item ∷ drop (passed + 1) left
  left-item passed item part some is last =
      let first : front % 65536 ≡ front = mod-eq_of_lt (omega (arith, count)) in
      let same : take (passed + 1) left ≡ take (passed + 1) (drop front items) =
      rw (← shown) (take-take (passed + 1) (back - front) (drop front items) (omega (arith, count))) in
      let here : part ≡ take (passed + 1) left = (rw first at is) ∙ sym same in
      let long : length part - 1 ≡ passed =
      omega (arith, ap length here, length-take-le (passed + 1) left (omega arith)) in
      let this : item ≡ get_or left passed item =
      (rw (long, here) at last) ∙ get_or-take (passed + 1) left passed item (omega arith) in
      drop_more left passed item some ∙ ap (λ x. x ∷ drop (passed + 1) left) (sym this)

  -- a list that was written over, as long as it was: two slots that lay in it still do
  pub left-kept : (after written : List T) {from to : ℕ} → from ≤ to → to ≤ length items
      → after ≡ refill (length items) items written
      → (from ≤ to) × (to ≤ length after) × (length after ≡ n) × (n ≤ 65536)
  left-kept after written ordered within stands =
      let long = refill-long items written after stands in
      (ordered, omega (arith, long, within), long ∙ lies.2, lies.3)

  module _ (passed : ℕ) (enough : passed ≤ length left) where
    -- so many at the front were written over and passed
    pub left-past : (after written : List T) → after ≡ refill (length items) items (part_set front passed items written)
        → slice_range after (front + passed) back ≡ drop passed left
    left-past after written stands =
        let same : drop (front + passed) after ≡ drop (front + passed) items =
        part-behind front passed items written after (omega (arith, count)) stands in
        let rest = back - (front + passed) in
        let long : back - front ≡ passed + rest = omega (arith, count) in
        rw (same, ← drop-drop passed front items, ← drop-take passed rest (drop front items), ← long, shown) refl

    -- The same where some are given up, and blanks stand in their slots. The first slot is written as a remainder.
    module _ (some : 0 < passed) where
      first-is : front % 65536 ≡ front
      first-is = mod-eq_of_lt (omega (arith, count))

      last-is : (back - passed) % 65536 ≡ back - passed
      last-is = mod-eq_of_lt (omega (arith, count))

      pub blanks-first : front % 65536 + passed ≤ length items
      blanks-first = omega (arith, count, first-is)

      pub blanks-last : (back - passed) % 65536 + passed ≤ length items
      blanks-last = omega (arith, count, last-is)

      pub left-behind : (after blanks : List T)
          → after ≡ refill (length items) items (part_set (front % 65536) passed items blanks)
          → slice_range after (front + passed) back ≡ drop passed left
      left-behind after blanks written = left-past after blanks
          (written ∙ ap (λ k. refill (length items) items (part_set k passed items blanks)) first-is)

      -- and at the back
      pub left-before : (after blanks : List T)
          → after ≡ refill (length items) items (part_set ((back - passed) % 65536) passed items blanks)
          → slice_range after front (back - passed) ≡ take (length left - passed) left
      left-before after blanks written =
          let end = back - passed in
          let same : take end after ≡ take end items =
          part-before end passed items blanks after (omega (arith, count))
          (written ∙ ap (λ k. refill (length items) items (part_set k passed items blanks)) last-is) in
          let whole : end ≡ front + (end - front) = omega (arith, count) in
          let kept : end - front ≡ length left - passed = omega (arith, count) in
          let part : (slots : List T) → take (end - front) (drop front slots) ≡ drop front (take end slots) =
          λ slots. sym (drop-take front (end - front) slots) ∙ ap (λ k. drop front (take k slots)) (sym whole) in
          part after ∙ (ap (drop front) same
          ∙ (sym (part items) ∙ (sym (take-take (end - front) (back - front) (drop front items) (omega arith))
          ∙ (ap (take (end - front)) shown ∙ ap (λ k. take k left) kept))))
