use Rattle.ga_core.proofs.slots.write_defaults.Goals as goal
use Rattle.std.proofs.Common.{arith, subst, take, All}
use Rattle.std.proofs.lemmas.List.{take_all, take_more_set}
use Rattle.std.proofs.lemmas.List.Elements.{All-push}

pub loop-slot-preserved : goal.loop-slot-preserved
loop-slot-preserved g c =
    let at = c.loop-slot in
    rw (take_more_set at.slots at.slot-index c.default.result (omega arith))
    (All-push g.T.Default.is_default (take at.slot-index at.slots) c.default.result at.invariant c.default.ensures)

pub returns : goal.returns
returns g c =
    let at = c.loop-slot in
    subst (All g.T.Default.is_default) (take_all at.slot-index at.slots (omega arith)) at.invariant
