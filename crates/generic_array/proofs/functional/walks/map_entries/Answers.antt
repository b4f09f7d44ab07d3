use Rattle.generic_array.proofs.WalkLemmas.{ClosureRun-keeps, map-callable, walk-whole}
use Rattle.generic_array.proofs.functional.walks.map_entries.Goals as goal
use Rattle.std.proofs.Common.{arith, rules}
use Rattle.std.proofs.lemmas.Result.{IfOk-weaker}
use Rattle.std.proofs.lemmas.List.FromFn.{length-range_with_len}

pub generate_by-requires-clause-callable : goal.generate_by-requires-clause-callable
generate_by-requires-clause-callable g c =
    let asked = c.requires.callable in
    λ k ys reached below run stays. map-callable g.I.Iterator.next_gives g.I.Iterator.can_next asked.0 (goal.F-pre g)
    (goal.F-step g) (λ d. d.1.now) (λ d. d.0.now) _ (λ d j y e call. call.met.1.0) asked.1 _ _ ys reached asked.2.2
    asked.2.0 run (omega (arith, length-range_with_len 0 k, asked.3, below)) asked.4

pub returns : goal.returns
returns g c = record {
  len = c.generate_by.ensures.len;
  run = IfOk-weaker c.generate_by.result _ _ (λ made run entry values gives long.
      let kept = ClosureRun-keeps _ (λ d. d.0.ghost_name) (λ d j y e call. call.met.1.1) _ _ _
      c.generate_by.new.f run in
      let whole = walk-whole g.I.Iterator.next_gives g.I.Iterator.can_next entry (goal.F-pre g) (goal.F-step g)
      (λ d. d.1.now) (λ d. d.0.now) _ (λ d j y e call. call.met.1.0) values _ _
      (g.M.Sequence.AsSlice.items made) c.generate_by.new.f gives.2 run
      (omega (arith, length-range_with_len 0 g.M.Length.Unsigned.USIZE, long)) in
      search rules) c.generate_by.ensures.run;
  err = search rules;
  promised = c.generate_by.ensures.promised;
}
