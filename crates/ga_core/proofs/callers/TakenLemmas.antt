-- What is taken of an iterator that is a list.
use Rattle.ga_core.specs.Fill.{Takes}
use Rattle.std.proofs.Common.{◌≡◌, ◌∙◌, ℕ, List, [], ◌∷◌, ◌++◌, ap, arith, inl, inr, length, sym, take}
use Rattle.std.proofs.lemmas.List.{append-nil, take_all, take_at}
use Rattle.std.specs.Iterator.{Yields, YieldsFirst}

module _ {T : Type 0} where
  -- what calls gave of a list stood in front of what they left
  given-front : (before taken after : List T) → Yields (YieldsFirst (λ left. left)) before taken after
      → before ≡ taken ++ after
  given-front before [] after calls = calls
  given-front before (item ∷ taken) after (next, step, calls) =
      step ∙ ap (λ items. item ∷ items) (given-front next taken after calls)

  -- what a builder took of an iterator that is a list: its first items, as many as there was room for
  pub taken-front : (room : ℕ) (before taken after : List T)
      → Takes (YieldsFirst (λ left. left)) before room taken after → taken ≡ take room before
  taken-front room before taken after (inl (calls, full)) =
      sym (rw (given-front before taken after calls) (take_at taken after room full))
  taken-front room before taken after (inr ((left, calls, end), few)) =
      let all : before ≡ taken = given-front before taken left calls
      ∙ (ap (λ items. taken ++ items) end.0 ∙ append-nil taken) in
      sym all ∙ sym (take_all room before (omega (arith, few, ap length all)))

-- for a caller of `extend` by what an array's iterator has left: what it names by `using`
pub ruleset takings = (taken-front)
