use Rattle.ga_boxed.proofs.BlockLemmas.{put-next}
use Rattle.ga_boxed.proofs.boxed_array.BoxedArray.try_map_ref_by.Goals as goal
use Rattle.ga_core.proofs.CallLemmas.{may_try_map-at}
use Rattle.ga_core.proofs.CutLemmas.{cut-at, take-one}
use Rattle.ga_core.proofs.EntryActs.{tries_at_entries}
use Rattle.ga_core.proofs.RunLemmas.{ClosureRun-good, TryClosureRun-error, TryClosureRun-good}
use Rattle.ga_core.specs.Entries.{CallAt}
use Rattle.std.proofs.Common.{◌+◌, ◌∙◌, drop, refl, sym, take, take_all}

pub f-requires : goal.f-requires
f-requires g c =
    let given = c.as_slice-item-items in
    let here = cut-at c.loop-item.item-index given.result.now c.item-item.result c.loop-item-test.true c.item-item.is in
    may_try_map-at (λ item. item.now) _ _ _ _ c.requires.callable (take c.loop-item.item-index given.result.now)
    c.item-item.result _ c.loop-item.block.items _ (sym given.ensures.items ∙ here) c.loop-item.invariant.run _ refl

pub loop-item-preserved : goal.loop-item-preserved
loop-item-preserved g c =
    let at = c.loop-item in
    let given = c.as_slice-item-items.result.now in
    put-next c.in-Ok.value (take (at.item-index + 1) given) c.f.new.self at.invariant c.put.ensures.items
    c.put.ensures.room
    (rw (take-one at.item-index given c.item-item.result c.loop-item-test.true c.item-item.is)
    (ClosureRun-good (CallAt (λ item. item.now) (goal.F-step g)) c.args.f.now (take at.item-index given)
    at.block.items at.f c.item-item.result c.in-Ok.value c.f.new.self at.invariant.run (_, refl, c.in-Ok.ensures)))

pub returns-in-Err : goal.returns-in-Err
returns-in-Err g c =
    let at = c.loop-item in
    let given = c.as_slice-item-items in
    let item = c.item-item.result in
    let step = CallAt (λ item. item.now) (goal.F-step g) in
    let here = cut-at at.item-index given.result.now item c.loop-item-test.true c.item-item.is in
    let run = rw (← here, given.ensures.items) at
    (TryClosureRun-error step c.args.f.now (take at.item-index given.result.now) at.block.items at.f item
    (drop (at.item-index + 1) given.result.now) c.in-Err.error c.f.new.self at.invariant.run (_, refl, c.in-Err.ensures)) in
    record {
      run = run;
      acts = λ h acts. tries_at_entries (λ item. item.now) (goal.F-step g) c.args.f.now h acts _ _ _ run;
      err = tt;
      empty = λ none. refl;
    }

pub returns : goal.returns
returns g c =
    let at = c.loop-item in
    let given = c.as_slice-item-items in
    let step = CallAt (λ item. item.now) (goal.F-step g) in
    let run = rw (take_all at.item-index given.result.now c.loop-item-test.false, given.ensures.items) at
    (TryClosureRun-good step c.args.f.now (take at.item-index given.result.now) at.block.items at.f at.invariant.run) in
    rw c.from_block.ensures record {
      run = run;
      acts = λ h acts. tries_at_entries (λ item. item.now) (goal.F-step g) c.args.f.now h acts _ _ _ run;
      err = tt;
      empty = λ none. refl;
    }
