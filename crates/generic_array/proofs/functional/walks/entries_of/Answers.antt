use Rattle.generic_array.proofs.functional.walks.entries_of.Goals as goal
use Rattle.generic_array.specs.Views.{length-items_of_view}
use Rattle.std.proofs.Common.{◌∙◌, ap, length, sym}

pub returns-clause-gives : goal.returns-clause-gives
returns-clause-gives g c = g.met.S.GenericSequence.gives_entries c.args.s c.into_iter.result
    c.into_iter.ensures.into_iter_gives

pub returns-clause-long : goal.returns-clause-long
returns-clause-long g c = ap length (sym c.view.ensures) ∙ length-items_of_view c.view.result
