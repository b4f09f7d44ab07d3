-- Steps that cut a list from its ends, joined to what std says of `next` and `next_back`.
use Rattle.ga_views.specs.Cut.{StepGives, back, front}
use Rattle.std.proofs.Common.{◌≡◌, ℕ, zero, suc, ◌+◌, ◌<◌, ◌≤◌, List, [], ◌∷◌, ◌++◌, Option, None, Some}
use Rattle.std.proofs.Common.{length, min, take, drop, reverse, refl, sym, ap, ◌∙◌, append_assoc, arith}
use Rattle.std.proofs.Common.{length-drop, slice_get, slice_index_or}
use Rattle.std.proofs.lemmas.List.{drop-drop, drop_at, drop_min, drop_more, length-reverse, reverse-append}
use Rattle.std.proofs.lemmas.List.{reverse-reverse, take-append-drop, take_more}
use Rattle.std.proofs.Math.ListN.{drop_of_length-le}
use Rattle.std.proofs.lemmas.Option.{slice_get_past}
use Rattle.std.specs.Iterator.{YieldsFirst, YieldsFirstBy, YieldsLast, YieldsLastBy}
use Rattle.std.specs.Option.{option_map}

module _ {T : Type 0} where
  -- an item of a list, by what is left before it
  slice_get-drop : (n : ℕ) (items : List T) → slice_get (drop n items) 0 ≡ slice_get items n
  slice_get-drop zero items = refl
  slice_get-drop (suc n) [] = refl
  slice_get-drop (suc n) (x ∷ items) = slice_get-drop n items

  -- `next` replies with the first item and leaves the others
  pub next-step : (items : List T) (reply : Option T) (left : List T) → YieldsFirst (λ all. all) items reply left
      → StepGives (front 0) items reply left
  next-step items None left ended = (ap (λ all. slice_get all 0) (sym ended.0), ended.1 ∙ ap (drop 1) (sym ended.0))
  next-step items (Some item) left came = (ap (λ all. slice_get all 0) (sym came), ap (drop 1) (sym came))

  -- a step whose items are views of those of the list
  pub first-by : {A : Type 0} (view : A → T) (items : List T) (reply : Option A) (left : List T)
      → YieldsFirstBy view (λ all. all) items reply left → YieldsFirst (λ all. all) items (option_map view reply) left
  first-by view items None left step = step
  first-by view items (Some item) left step = step

  pub last-by : {A : Type 0} (view : A → T) (items : List T) (reply : Option A) (left : List T)
      → YieldsLastBy view (λ all. all) items reply left → YieldsLast (λ all. all) items (option_map view reply) left
  last-by view items None left step = step
  last-by view items (Some item) left step = step

  module _ (n : ℕ) (items : List T) (item : T) (some : n < length items) (this : item ≡ slice_index_or items n item) where
    -- the items before one, that one, and those behind it
    pub cut-at : items ≡ take n items ++ item ∷ drop (n + 1) items
    cut-at = sym (take-append-drop n items)
        ∙ ap (λ left. take n items ++ left) (drop_more items n item some ∙ ap (λ x. x ∷ drop (n + 1) items) (sym this))

    -- the items before one, and that one
    pub take-one : take (n + 1) items ≡ take n items ++ item ∷ []
    take-one = take_more items n item some ∙ ap (λ x. take n items ++ x ∷ []) (sym this)

  -- all but the last are, from the back, what lies behind the first
  pub reverse-take : (items : List T) (kept passed : ℕ) → length items ≡ kept + passed
      → reverse (take kept items) ≡ drop passed (reverse items)
  reverse-take items kept passed long =
      let front = take kept items in let last = drop kept items in
      let count : length (reverse last) ≡ passed = omega (arith, length-reverse last, length-drop kept items, long) in
      sym (drop_at (reverse last) (reverse front) passed count)
      ∙ ap (drop passed) (sym (reverse-append front last) ∙ ap reverse (take-append-drop kept items))

  -- `next_back` is `next` on the reversed list
  pub next_back-reversed : (items : List T) (reply : Option T) (left : List T)
      → YieldsLast (λ all. all) items reply left → YieldsFirst (λ all. all) (reverse items) reply (reverse left)
  next_back-reversed items None left ended = (ap reverse ended.0, ap reverse ended.1)
  next_back-reversed items (Some item) left came = ap reverse came ∙ reverse-append left (item ∷ [])

  -- some items more were taken from the front
  pub taken-some : (all taken left more others : List T) → all ≡ taken ++ left → left ≡ more ++ others
      → all ≡ (taken ++ more) ++ others
  taken-some all taken left more others so_far step =
      so_far ∙ (ap (λ rest. taken ++ rest) step ∙ sym (append_assoc taken more others))

  -- one item more was taken from the front
  pub taken-more : (all taken left : List T) (item : T) (others : List T) → all ≡ taken ++ left → left ≡ item ∷ others
      → all ≡ (taken ++ item ∷ []) ++ others
  taken-more all taken left item others so_far step = taken-some all taken left (item ∷ []) others so_far step

  -- one item more was passed over
  pub passed-more : (n : ℕ) (items left : List T) (reply : Option T) (after : List T) → left ≡ drop n items
      → YieldsFirst (λ all. all) left reply after → after ≡ drop (n + 1) items
  passed-more n items left reply after passed step =
      (next-step left reply after step).1 ∙ (ap (drop 1) passed ∙ drop-drop 1 n items)

  -- behind n items, or behind all where there are no more, `next` does the step
  pub nth-step : (n passed : ℕ) (items left : List T) (reply : Option T) (after : List T)
      → passed ≡ min n (length items) → left ≡ drop passed items → YieldsFirst (λ all. all) left reply after
      → StepGives (front n) items reply after
  nth-step n passed items left reply after count here step =
      let place : left ≡ drop n items = here ∙ (ap (λ k. drop k items) count ∙ drop_min n items) in (
        (next-step left reply after step).0 ∙ (ap (λ all. slice_get all 0) place ∙ slice_get-drop n items),
        passed-more n items left reply after place step,
      )

  -- where there are no more than n items, the step consumes them
  pub nth-past : (n : ℕ) (items left : List T) → length items ≤ n → left ≡ [] → StepGives (front n) items None left
  nth-past n items left beyond none =
      (sym (slice_get_past items n (omega arith)), none ∙ sym (drop_of_length-le items (omega arith)))

  -- the same from the back
  pub nth_back-past : (n : ℕ) (items left : List T) → length items ≤ n → left ≡ [] → StepGives (back n) items None left
  nth_back-past n items left beyond none =
      let gone = nth-past n (reverse items) [] (omega (arith, length-reverse items)) refl in
      (gone.0, none ∙ ap reverse gone.1)

  -- behind n items from the back, or before all where there are no more, `next_back` does the step
  pub nth_back-step : (n passed : ℕ) (items left : List T) (reply : Option T) (after : List T)
      → passed ≡ min n (length items) → reverse left ≡ drop passed (reverse items)
      → YieldsLast (λ all. all) left reply after → StepGives (back n) items reply after
  nth_back-step n passed items left reply after count here step =
      let same : length (reverse items) ≡ length items = length-reverse items in
      let gave = nth-step n passed (reverse items) (reverse left) reply (reverse after) (omega arith) here
      (next_back-reversed left reply after step) in
      (gave.0, sym (reverse-reverse after) ∙ ap reverse gave.1)
