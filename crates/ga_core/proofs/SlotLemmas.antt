-- Writing over the slots of a slice.
use Rattle.ga_views.proofs.PartLemmas.{part-before, part-within, part_long}
use Rattle.ga_views.specs.Parts.{part_set}
use Rattle.std.proofs.Common.{◌≡◌, ◌≤◌, ◌+◌, ℕ, List, arith, ◌++◌, length, length-set, length-take, drop}
use Rattle.std.proofs.Common.{take, slice_set, sym, ap, refl, ◌∙◌}
use Rattle.std.proofs.Math.Seq.{take-add}
use Rattle.std.proofs.lemmas.List.{take_at}
use Rattle.std.specs.List.{length_refill, refill}

-- all slots are written
pub refill-whole : {X : Type 0} (n : ℕ) (items written : List X) → n ≡ length written → refill n items written ≡ written
refill-whole n items written all = take_at written (drop (length written) items) n (sym all)

-- there are as many slots after a loan of all
pub refill-long : {X : Type 0} (items written after : List X) → after ≡ refill (length items) items written
    → length after ≡ length items
refill-long items written after stands = ap length stands ∙ sym (length_refill (length items) items written refl)

-- what stands after a loan of all slots, where one was written
pub refill-set : {X : Type 0} (items slots after : List X) (slot : ℕ) (item : X) → slots ≡ items
    → after ≡ refill (length items) items (slice_set slots slot item) → after ≡ slice_set items slot item
refill-set items slots after slot item same written =
    let whole : length items ≡ length (slice_set slots slot item) =
    ap length (sym same) ∙ sym (length-set slots slot item) in
    written ∙ (refill-whole (length items) items (slice_set slots slot item) whole
    ∙ ap (λ list. slice_set list slot item) same)

-- what stands in the first slots, where these were written over
pub front-written : {X : Type 0} (len : ℕ) (items written after : List X) → len ≤ length items → length written ≡ len
    → after ≡ refill (length items) items (part_set 0 len items written) → take len after ≡ written
front-written len items written after within long stands =
    part-within 0 len items written after (omega (arith, within)) stands
    ∙ refill-whole len (take len items) written (sym long)

-- the first slots of a list that has room for as many
pub front-room : {X : Type 0} {count room : ℕ} (len : ℕ) (items front : List X) → front ≡ take len items → len ≤ count
    → length items ≡ room → room ≡ count → (len ≤ length items) × (length front ≡ len)
front-room len items front lends bound full same =
    let within : len ≤ length items = omega arith in
    (within, omega (arith, ap length lends, length-take len items, within))

-- The `count` slots behind the first, which are shown, are lent and written over.
module _ {X : Type 0} {first room : ℕ} (count : ℕ) (items : List X) {shown : List X} (bound : first ≤ room)
    (full : length items ≡ room) (shows : take first items ≡ shown) (enough : length shown + count ≤ room) where
  within : first + count ≤ length items
  within = omega (arith, ap length shows, length-take first items, bound, full, enough)

  pub behind-long : {lent : List X} → lent ≡ take count (drop first items) → length lent ≡ count
  behind-long lends = ap length lends ∙ part_long first count items within

  module _ (written after : List X) (stands : after ≡ refill (length items) items (part_set first count items written)) where
    -- the first are as they were
    pub behind-kept : take first after ≡ shown
    behind-kept = part-before first count items written after within stands ∙ shows

    -- and what was written stands behind them
    pub behind-written : length written ≡ count → take (first + count) after ≡ shown ++ written
    behind-written long =
        rw (take-add first count after, behind-kept, part-within first count items written after within stands)
        (ap (λ list. shown ++ list) (refill-whole count (take count (drop first items)) written (sym long)))
