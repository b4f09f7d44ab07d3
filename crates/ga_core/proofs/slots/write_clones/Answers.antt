use Rattle.ga_core.proofs.NextCalls.{run-of_all}
use Rattle.ga_core.proofs.slots.write_clones.Goals as goal
use Rattle.std.proofs.Common.{arith, subst, sym, take}
use Rattle.std.proofs.lemmas.List.{take_more_set}
use Rattle.std.proofs.lemmas.List.Elements.{all_zip_more}
use Rattle.std.proofs.lemmas.Result.{err_from_is_err_and}
use Rattle.std.specs.List.{AllZip}

pub loop-index-preserved : goal.loop-index-preserved
loop-index-preserved g c =
    let at = c.loop-index in
    rw (take_more_set at.slots at.index c.in_ok-slot.field-0 (omega arith))
    (all_zip_more g.T.Clone.is_clone c.args.items.now (take at.index at.slots) at.index _ _
    (omega arith) c.index-items-index.is at.invariant c.in_ok-slot.ensures.cases)

pub returns-in_err-slot : goal.returns-in_err-slot
returns-in_err-slot g c =
    let failed = err_from_is_err_and c.from_residual.result c.from_residual.ensures.1 in
    rw failed.1 record {
      items = tt;
      succeeds = λ fine. absurd (c.in_err-slot.ensures.cases (subst g.T.Clone.is_infallible
          (sym c.index-items-index.is) (fine c.loop-index.index c.index-items-index.result (omega arith))));
    }

pub returns-clause-items : goal.returns-clause-items
returns-clause-items g c = run-of_all (AllZip g.T.Clone.is_clone) c.loop-index.index c.args.items.now c.loop-index.slots
    (omega arith) (omega arith) c.loop-index.invariant
