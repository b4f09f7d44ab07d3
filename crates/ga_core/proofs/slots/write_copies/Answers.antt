use Rattle.ga_core.proofs.CopyLemmas.{Repeats-none, Repeats-written}
use Rattle.ga_core.proofs.slots.write_copies.Goals as goal
use Rattle.std.proofs.Common.{◌≡◌, ◌-◌, arith, drop, length, length-drop, length-take, subst, take, All}
use Rattle.std.proofs.lemmas.List.{take_all, take_more_set}
use Rattle.std.proofs.lemmas.List.Elements.{All-push}
use Rattle.std.proofs.lemmas.Result.{err_from_is_err_and}

pub returns-after-loop-slot-clause-items : goal.returns-after-loop-slot-clause-items
returns-after-loop-slot-clause-items g c =
    let slots = c.args.slots.now in
    let at = c.loop-slot in
    let whole : take at.slot-index at.slot-items ≡ at.slot-items = take_all at.slot-index at.slot-items (omega arith) in
    Repeats-written g.T.Clone.is_clone c.args.item (length slots) at.slot-items (drop (length slots - 1) slots)
    (omega (arith, length-take (length slots - 1) slots))
    (omega (arith, length-drop (length slots - 1) slots))
    (subst (All (g.T.Clone.is_clone c.args.item)) whole at.invariant)

pub loop-slot-preserved : goal.loop-slot-preserved
loop-slot-preserved g c =
    let at = c.loop-slot in
    rw (take_more_set at.slot-items at.slot-index c.in_ok-slot.field-0 (omega arith))
    (All-push (g.T.Clone.is_clone c.args.item) (take at.slot-index at.slot-items) c.in_ok-slot.field-0 at.invariant
    c.in_ok-slot.ensures.cases)

pub returns-in_err-slot : goal.returns-in_err-slot
returns-in_err-slot g c =
    let failed = err_from_is_err_and c.from_residual.result c.from_residual.ensures.1 in
    rw failed.1 record {
      items = tt;
      few = λ few. absurd (omega (arith, few, length-take (length c.args.slots.now - 1) c.args.slots.now));
      succeeds = λ fine. absurd (c.in_err-slot.ensures.cases fine);
    }

pub returns-else-count-gt0-clause-items : goal.returns-else-count-gt0-clause-items
returns-else-count-gt0-clause-items g c =
    Repeats-none g.T.Clone.is_clone c.args.item c.args.slots.now c.if-count-gt0.false
