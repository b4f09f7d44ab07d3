use Rattle.ga_boxed.proofs.BlockLemmas.{put-next}
use Rattle.ga_boxed.proofs.boxed_array.BoxedArray.try_generate_by.Goals as goal
use Rattle.ga_core.proofs.ActsLemmas.{answers_until_error}
use Rattle.ga_core.proofs.CallLemmas.{may_try_generate-at}
use Rattle.ga_core.proofs.RunLemmas.{ClosureRun-good, TryClosureRun-at, TryClosureRun-good, below-add_one}
use Rattle.std.proofs.Common.{◌≡◌, ◌<◌, ◌+◌, Err, Ok, arith, refl, subst}
use Rattle.std.specs.List.{range_with_len}

pub f-requires : goal.f-requires
f-requires g c =
    let at = c.loop-index in
    may_try_generate-at (goal.F-pre g) (goal.F-step g) c.args.f.now g.N.Unsigned.USIZE c.requires.callable at.index
    at.block.items at.f (subst (λ n. at.index < n) c.USIZE-index-end.ensures c.loop-index-test.true) at.invariant.run

pub loop-index-preserved : goal.loop-index-preserved
loop-index-preserved g c =
    let at = c.loop-index in
    put-next c.in-Ok.item (range_with_len 0 (at.index + 1)) c.f.new.self at.invariant c.put.ensures.items
    c.put.ensures.room
    (rw below-add_one (ClosureRun-good (goal.F-step g) c.args.f.now (range_with_len 0 at.index) at.block.items at.f
    at.index c.in-Ok.item c.f.new.self at.invariant.run c.in-Ok.ensures))

pub from_block-requires : goal.from_block-requires
from_block-requires g c = record { len = omega arith }

pub returns-in-Err : goal.returns-in-Err
returns-in-Err g c =
    let at = c.loop-index in
    let below = range_with_len 0 g.N.Unsigned.USIZE in
    let run = TryClosureRun-at (goal.F-step g) c.args.f.now at.index g.N.Unsigned.USIZE at.block.items at.f
    c.in-Err.error c.f.new.self (subst (λ n. at.index < n) c.USIZE-index-end.ensures c.loop-index-test.true)
    at.invariant.run c.in-Err.ensures in
    record {
      run = run;
      acts = λ h acts. answers_until_error (goal.F-step g) c.args.f.now h acts below (Err c.in-Err.error) c.f.new.self
          run;
      err = tt;
      empty = λ none. refl;
    }

pub returns : goal.returns
returns g c =
    let at = c.loop-index in
    let below = range_with_len 0 g.N.Unsigned.USIZE in
    let all : at.index ≡ g.N.Unsigned.USIZE = omega arith in
    let run = rw all at
    (TryClosureRun-good (goal.F-step g) c.args.f.now (range_with_len 0 at.index) at.block.items at.f at.invariant.run) in
    rw c.from_block.ensures record {
      run = run;
      acts = λ h acts. answers_until_error (goal.F-step g) c.args.f.now h acts below (Ok at.block.items) at.f run;
      err = tt;
      empty = λ none. refl;
    }
