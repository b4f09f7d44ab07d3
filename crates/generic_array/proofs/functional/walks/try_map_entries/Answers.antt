use Rattle.generic_array.proofs.WalkLemmas.{TryClosureRan-keeps, try_map-callable, walk-ran}
use Rattle.generic_array.proofs.functional.walks.try_map_entries.Goals as goal
use Rattle.std.proofs.Common.{arith, rules}
use Rattle.std.proofs.lemmas.List.FromFn.{length-range_with_len}
use Rattle.std.proofs.lemmas.Result.{IfOk-weaker}

pub try_build-requires-clause-callable : goal.try_build-requires-clause-callable
try_build-requires-clause-callable g c =
    let asked = c.requires.callable in
    λ k good reached below run stays. try_map-callable g.I.Iterator.next_gives g.I.Iterator.can_next asked.0
    (goal.F-pre g) (goal.F-step g) (λ d. d.1.now) (λ d. d.0.now) _ (λ d j y e call. call.met.1.0) asked.1 _ _ good
    reached asked.2.2 asked.2.0 run (omega (arith, length-range_with_len 0 k, asked.3, below)) asked.4

pub returns : goal.returns
returns g c = record {
  len = c.try_build.ensures.len;
  run = IfOk-weaker c.try_build.result _ _ (λ built ran entry values gives long.
      let kept = TryClosureRan-keeps ran (λ d. d.0.ghost_name) (λ d j y e call. call.met.1.1) in
      let lifted = walk-ran ran g.I.Iterator.next_gives g.I.Iterator.can_next entry (goal.F-pre g) (goal.F-step g)
      (λ d. d.1.now) (λ d. d.0.now) (λ d j y e call. call.met.1.0) values gives.2
      (omega (arith, length-range_with_len 0 g.M.Length.Unsigned.USIZE, long)) in
      search rules) c.try_build.ensures.run;
  err = search rules;
  promised = c.try_build.ensures.promised;
}
