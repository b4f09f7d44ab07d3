use Rattle.ga_core.proofs.ActsLemmas.{answers_until_error}
use Rattle.ga_core.proofs.MadeLemmas.{TryClosureRun-made, made-is_written}
use Rattle.ga_core.proofs.array.GenericArray.try_generate_by.Goals as goal
use Rattle.std.proofs.Common.{◌∙◌, Ok, ap, arith, refl}
use Rattle.std.specs.List.{range_with_len}

pub try_write_generated-requires : goal.try_write_generated-requires
try_write_generated-requires g c =
    let full = c.as_mut_slice.ensures.len in
    record { callable = λ k good reached below. c.requires.callable k good reached (omega (arith, below, full)) }

pub returns-in-Ok : goal.returns-in-Ok
returns-in-Ok g c =
    let full = c.as_mut_slice.ensures.len in
    let made = c.repack.ensures ∙ made-is_written c.as_mut_slice.ensures.items c.try_write_generated.auto.slots in
    let run = TryClosureRun-made (goal.F-step g) _ _ (ap (range_with_len 0) full) (ap Ok made) c.in-Ok.ensures.run in
    record { run = run; acts = λ h acts. answers_until_error (goal.F-step g) c.args.f.now h acts _ _ _ run }

pub returns-in-Err : goal.returns-in-Err
returns-in-Err g c =
    let full = c.as_mut_slice.ensures.len in
    let run = TryClosureRun-made (goal.F-step g) _ _ (ap (range_with_len 0) full) refl c.in-Err.ensures.run in
    record { run = run; acts = λ h acts. answers_until_error (goal.F-step g) c.args.f.now h acts _ _ _ run }
