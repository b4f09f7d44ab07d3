use Rattle.ga_core.proofs.ActsLemmas.{answers_of_run}
use Rattle.ga_core.proofs.MadeLemmas.{ClosureRun-made, made-is_written, made_is}
use Rattle.ga_core.proofs.array.GenericArray.generate_by.Goals as goal
use Rattle.std.proofs.Common.{◌∙◌, ap, arith, sym}
use Rattle.std.specs.List.{range_with_len}

pub write_generated-requires : goal.write_generated-requires
write_generated-requires g c =
    let full = c.as_mut_slice.ensures.len in
    record { callable = λ k ys reached below. c.requires.callable k ys reached (omega (arith, below, full)) }

pub returns : goal.returns
returns g c =
    let full = c.as_mut_slice.ensures.len in
    let made = c.repack.ensures ∙ made-is_written c.as_mut_slice.ensures.items c.write_generated.auto.slots in
    let run = ClosureRun-made (goal.F-step g) _ _ (ap (range_with_len 0) full) made c.write_generated.ensures.run in
    record {
      run = run;
      acts = λ h acts. answers_of_run _ _ h acts _ _ _ run;
      made = λ h acts. answers_of_run _ _ h acts _ _ _ run ∙ sym (made_is h g.N.Unsigned.USIZE);
    }
