use Rattle.ga_boxed.proofs.BlockLemmas.{put-next}
use Rattle.ga_boxed.proofs.boxed_array.BoxedArray.zip_ref_by.Goals as goal
use Rattle.ga_core.proofs.CallLemmas.{may_zip-at}
use Rattle.ga_core.proofs.CutLemmas.{cut-at, take-one}
use Rattle.ga_core.proofs.EntryActs.{answers_at_pairs}
use Rattle.ga_core.proofs.RunLemmas.{ClosureRun-snoc}
use Rattle.ga_core.proofs.ZipLemmas.{pair-here, pair-in, pairs-in, same-pairs}
use Rattle.ga_core.specs.Entries.{CallAtPair}
use Rattle.std.proofs.Common.{◌≤◌, ◌<◌, ◌+◌, ◌∙◌, arith, refl, sym, take, zip, take_all}

pub f-requires : goal.f-requires
f-requires g c =
    let at = c.loop-index in
    let left = c.as_slice-left.result.now in
    let right = c.as_slice-right.result.now in
    let below : at.index < g.N.Unsigned.USIZE = omega (arith, c.loop-index-test.true, c.USIZE-index-end.ensures) in
    may_zip-at (λ item. item.now) (λ item. item.now) _ _ _ _ _ c.requires.callable (take at.index (zip left right))
    (c.index-left-index.result, c.index-right-index.result) _ _ _
    (sym (same-pairs c.as_slice-left.ensures.items c.as_slice-right.ensures.items)
    ∙ cut-at at.index (zip left right) _ (pair-in left right below c.as_slice-left.ensures.len c.as_slice-right.ensures.len)
    (pair-here at.index left right c.index-left-index.is c.index-right-index.is)) at.invariant.run _ _ refl refl

pub loop-index-preserved : goal.loop-index-preserved
loop-index-preserved g c =
    let at = c.loop-index in
    let left = c.as_slice-left.result.now in
    let right = c.as_slice-right.result.now in
    let below : at.index < g.N.Unsigned.USIZE = omega (arith, c.loop-index-test.true, c.USIZE-index-end.ensures) in
    put-next c.f.result (take (at.index + 1) (zip left right)) c.f.new.self at.invariant c.put.ensures.items
    c.put.ensures.room
    (rw (take-one at.index (zip left right)
    (c.index-left-index.result, c.index-right-index.result)
    (pair-in left right below c.as_slice-left.ensures.len c.as_slice-right.ensures.len)
    (pair-here at.index left right c.index-left-index.is c.index-right-index.is))
    (ClosureRun-snoc (CallAtPair (λ item. item.now) (λ item. item.now) (goal.F-step g)) c.args.f.now
    (take at.index (zip left right)) at.block.items at.f
    (c.index-left-index.result, c.index-right-index.result) c.f.result c.f.new.self at.invariant.run
    (_, _, refl, refl, c.f.ensures)))

pub returns : goal.returns
returns g c =
    let at = c.loop-index in
    let left = c.as_slice-left.result.now in
    let right = c.as_slice-right.result.now in
    let past : g.N.Unsigned.USIZE ≤ at.index = omega (arith, c.loop-index-test.false, c.USIZE-index-end.ensures) in
    let all = take_all at.index (zip left right) (pairs-in left right past c.as_slice-left.ensures.len) in
    let run = rw (all, same-pairs c.as_slice-left.ensures.items c.as_slice-right.ensures.items) at at.invariant.run in
    rw c.from_block.ensures record {
      run = run;
      acts = λ h acts. answers_at_pairs (λ item. item.now) (λ item. item.now) _ _ h acts _ _ _ run;
      err = tt;
      empty = λ none. refl;
    }
