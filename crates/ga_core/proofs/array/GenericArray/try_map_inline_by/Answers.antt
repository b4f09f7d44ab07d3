use Rattle.ga_core.proofs.ActsLemmas.{answers_until_error}
use Rattle.ga_core.proofs.MadeLemmas.{TryClosureRun-made, made-is_written}
use Rattle.ga_core.proofs.array.GenericArray.try_map_inline_by.Goals as goal
use Rattle.std.proofs.Common.{Ok, ap, refl, sym, ◌∙◌}

pub try_write_mapped-requires-clause-callable : goal.try_write_mapped-requires-clause-callable
try_write_mapped-requires-clause-callable g c = λ passed x others good reached whole.
    c.requires.callable passed x others good reached (sym c.as_mut_slice.ensures.items ∙ whole)

pub returns-in-Ok : goal.returns-in-Ok
returns-in-Ok g c =
    let made = c.repack.ensures ∙ made-is_written c.as_mut_slice-2.ensures.items c.try_write_mapped.auto.slots in
    let run = TryClosureRun-made (goal.F-step g) _ _ c.as_mut_slice.ensures.items (ap Ok made) c.in-Ok.ensures.run in
    record { run = run; acts = λ h acts. answers_until_error (goal.F-step g) c.args.f.now h acts _ _ _ run }

pub returns : goal.returns
returns g c =
    let run = TryClosureRun-made (goal.F-step g) _ _ c.as_mut_slice.ensures.items refl c.in-Err.ensures.run in
    record { run = run; acts = λ h acts. answers_until_error (goal.F-step g) c.args.f.now h acts _ _ _ run }
