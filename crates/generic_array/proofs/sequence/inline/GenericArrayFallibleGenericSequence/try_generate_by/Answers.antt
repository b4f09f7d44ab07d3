use Rattle.generic_array.proofs.BuiltLemmas.{built_items-same}
use Rattle.ga_core.proofs.RunLemmas.{TryClosureRun-length}
use Rattle.generic_array.proofs.sequence.inline.GenericArrayFallibleGenericSequence.try_generate_by.Goals as goal
use Rattle.std.proofs.Common.{refl}
use Rattle.std.proofs.lemmas.List.FromFn.{length-range_with_len}

pub returns : goal.returns
returns g c =
    let built = c.try_generate_by.result in
    record {
      len = TryClosureRun-length (goal.F-step g) c.args.f.now _ built c.try_generate_by.new.f g.N.Unsigned.USIZE
          (length-range_with_len 0 g.N.Unsigned.USIZE) c.try_generate_by.ensures.run;
      run = rw (built_items-same built) c.try_generate_by.ensures.run;
      acts = λ h acts. rw (built_items-same built) (c.try_generate_by.ensures.acts h acts);
      err = tt;
      promised = λ promised. refl;
    }
