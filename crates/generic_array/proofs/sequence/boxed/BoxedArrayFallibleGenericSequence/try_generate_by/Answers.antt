use Rattle.generic_array.proofs.BuiltLemmas.{built_items-same}
use Rattle.ga_core.proofs.RunLemmas.{TryClosureRun-length}
use Rattle.generic_array.proofs.sequence.boxed.BoxedArrayFallibleGenericSequence.try_generate_by.Goals as goal
use Rattle.std.proofs.lemmas.List.FromFn.{length-range_with_len}
use Rattle.std.proofs.lemmas.Result.{IfOk-weaker}

pub returns : goal.returns
returns g c =
    let filled = c.try_generate_by.result in
    let n = g.N.Unsigned.USIZE in
    record {
      len = IfOk-weaker filled _ _
          (λ built run. TryClosureRun-length (goal.F-step g) c.args.f.now _ built c.try_generate_by.new.f n
          (length-range_with_len 0 n) run) c.try_generate_by.ensures.run;
      run = IfOk-weaker filled _ _ (λ built run. rw (built_items-same built) run) c.try_generate_by.ensures.run;
      acts = IfOk-weaker filled _ _ (λ built acts h same. rw (built_items-same built) (acts h same))
          c.try_generate_by.ensures.acts;
      err = c.try_generate_by.ensures.err;
      promised = c.try_generate_by.ensures.empty;
    }
