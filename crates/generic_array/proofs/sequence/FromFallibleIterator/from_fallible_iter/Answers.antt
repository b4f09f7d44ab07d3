use Rattle.generic_array.proofs.sequence.FromFallibleIterator.from_fallible_iter.Goals as goal

pub returns-clause-fill : goal.returns-clause-fill
returns-clause-fill g c = (c.from_fallible_iter_ref.new.items, c.from_fallible_iter_ref.ensures.fill)
