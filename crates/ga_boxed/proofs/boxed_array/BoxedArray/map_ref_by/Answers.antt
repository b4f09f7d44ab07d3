use Rattle.ga_boxed.proofs.BlockLemmas.{put-next}
use Rattle.ga_boxed.proofs.boxed_array.BoxedArray.map_ref_by.Goals as goal
use Rattle.ga_core.proofs.CallLemmas.{may_map-at}
use Rattle.ga_core.proofs.CutLemmas.{cut-at, take-one}
use Rattle.ga_core.proofs.EntryActs.{answers_at_entries}
use Rattle.ga_core.proofs.RunLemmas.{ClosureRun-snoc}
use Rattle.ga_core.specs.Entries.{CallAt}
use Rattle.std.proofs.Common.{◌+◌, ◌∙◌, refl, sym, take, take_all}

pub f-requires : goal.f-requires
f-requires g c =
    let at = c.loop-item in
    let given = c.as_slice-item-items in
    let here = cut-at at.item-index given.result.now c.item-item.result c.loop-item-test.true c.item-item.is in
    may_map-at (λ item. item.now) _ _ _ _ c.requires.callable (take at.item-index given.result.now) c.item-item.result
    _ _ _ (sym given.ensures.items ∙ here) at.invariant.run _ refl

pub loop-item-preserved : goal.loop-item-preserved
loop-item-preserved g c =
    let at = c.loop-item in
    let given = c.as_slice-item-items.result.now in
    put-next c.f.result (take (at.item-index + 1) given) c.f.new.self at.invariant c.put.ensures.items c.put.ensures.room
    (rw (take-one at.item-index given c.item-item.result c.loop-item-test.true c.item-item.is)
    (ClosureRun-snoc (CallAt (λ item. item.now) (goal.F-step g)) c.args.f.now (take at.item-index given)
    at.block.items at.f c.item-item.result c.f.result c.f.new.self at.invariant.run (_, refl, c.f.ensures)))

pub returns : goal.returns
returns g c =
    let at = c.loop-item in
    let given = c.as_slice-item-items in
    let run = rw (take_all at.item-index given.result.now c.loop-item-test.false, given.ensures.items) at
    at.invariant.run in
    rw c.from_block.ensures record {
      run = run;
      acts = λ h acts. answers_at_entries (λ item. item.now) _ _ h acts _ _ _ run;
      err = tt;
      empty = λ none. refl;
    }
