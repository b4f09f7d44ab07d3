use Rattle.ga_core.proofs.LeftLemmas.{left-more, left-none}
use Rattle.ga_core.proofs.array_iter.GenericArrayIterDoubleEndedIterator.next_back.Goals as goal

pub returns-then-self-clause-steps : goal.returns-then-self-clause-steps
returns-then-self-clause-steps g c =
    let none = left-none _ _ c.self.invariant c.self.view_is c.if-self.true in (none, none)

pub take_last-requires : goal.take_last-requires
take_last-requires g c = record { enough = left-more _ _ c.self.invariant c.self.view_is c.if-self.false }
