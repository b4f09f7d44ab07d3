use Rattle.ga_core.proofs.LeftLemmas.{left-first, left-some}
use Rattle.ga_core.proofs.array_iter.GenericArrayIter.take_first.Goals as goal

pub take_at-requires-clause-in_bounds : goal.take_at-requires-clause-in_bounds
take_at-requires-clause-in_bounds g c = (left-some _ _ c.self.invariant c.self.view_is c.requires.enough).1

pub returns : goal.returns
returns g c = left-first _ _ c.self.invariant c.self.view_is c.requires.enough c.take_at.ensures.item c.take_at.ensures.left
