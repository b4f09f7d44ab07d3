-- An array all of whose slots were written over, and the run of calls that wrote them.
use Rattle.ga_core.proofs.SlotLemmas.{refill-whole}
use Rattle.ga_core.specs.Made.{made}
use Rattle.ga_core.specs.Runs.{ClosureRun, TryClosureRun}
use Rattle.std.proofs.Common.{◌≡◌, ◌∙◌, ℕ, List, Result, ap, length, map, refl, subst, sym}
use Rattle.std.specs.List.{range_with_len, refill}

-- what was made at each place is a map over the places
pub made_is : {X : Type 0} (f : ℕ → X) (n : ℕ) → made f n ≡ map f (range_with_len 0 n)
unfolding made
made_is f n = refl

-- the array has what was written, where its slots were lent as they were, and all of them were written
pub made-is_written : {X : Type 0} {blanks lent written : List X} → lent ≡ blanks → length written ≡ length lent
    → refill (length blanks) blanks written ≡ written
made-is_written {blanks} {written = written} lends long =
    refill-whole (length blanks) blanks written (ap length (sym lends) ∙ sym long)

-- what holds of lent items and of what was written holds of the items and of the array
pub made-of : {X Y : Type 0} (P : X → Y → Type 0) {lent items : X} {written array : Y} → lent ≡ items → array ≡ written
    → P lent written → P items array
made-of P {items = items} {written = written} same made holds =
    subst (P items) (sym made) (subst (λ x. P x written) same holds)

-- a run over lent items gave what was written, so the run over the items gives the array
pub ClosureRun-made : {F X Y : Type 0} (step : F → X → Y → F → Type 0) (f last : F) {lent items : List X}
    {written array : List Y} → lent ≡ items → array ≡ written
    → ClosureRun step f lent written last → ClosureRun step f items array last
ClosureRun-made step f last = made-of (λ xs ys. ClosureRun step f xs ys last)

-- the same for a run up to the first error
pub TryClosureRun-made : {F X Y E : Type 0} (step : F → X → Result Y E → F → Type 0) (f last : F) {lent items : List X}
    {given answer : Result (List Y) E} → lent ≡ items → answer ≡ given
    → TryClosureRun step f lent given last → TryClosureRun step f items answer last
TryClosureRun-made step f last = made-of (λ xs answer. TryClosureRun step f xs answer last)
