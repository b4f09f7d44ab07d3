use Rattle.ga_boxed.proofs.boxed_array.BoxedArray.generate_by.Goals as goal
use Rattle.ga_core.proofs.ActsLemmas.{answers_of_run}
use Rattle.std.proofs.Common.{◌≡◌, arith, length, refl}

pub put_some-requires-clause-callable : goal.put_some-requires-clause-callable
put_some-requires-clause-callable g c = (
  c.args.f.now,
  λ k ys reached below. c.requires.callable k ys reached
      (omega (arith, below, c.loop-block.invariant.room, c.room.ensures, c.if-room-ge-BLOCK.true)),
  c.loop-block.invariant.run,
)

pub loop-block-preserved : goal.loop-block-preserved
loop-block-preserved g c = record {
  run = c.put_some.ensures.run c.args.f.now c.loop-block.invariant.run;
  room = omega (arith, c.put_some.ensures.long, c.put_some.ensures.room, c.loop-block.invariant.room);
}

pub put_some-requires-2-clause-callable : goal.put_some-requires-2-clause-callable
put_some-requires-2-clause-callable g c = (
  c.args.f.now,
  λ k ys reached below. c.requires.callable k ys reached
      (omega (arith, below, c.loop-block.invariant.room, c.room-left.ensures)),
  c.loop-block.invariant.run,
)

pub returns : goal.returns
returns g c =
    let made = c.put_some-2.new.block.items in
    let all : length made ≡ g.N.Unsigned.USIZE =
    omega (arith, c.put_some-2.ensures.long, c.loop-block.invariant.room, c.room-left.ensures) in
    let run = rw all at (c.put_some-2.ensures.run c.args.f.now c.loop-block.invariant.run) in
    rw c.from_block.ensures record {
      run = run;
      acts = λ h acts. answers_of_run (goal.F-step g) c.args.f.now h acts _ made c.put_some-2.new.f run;
      err = tt;
      empty = λ none. refl;
    }
