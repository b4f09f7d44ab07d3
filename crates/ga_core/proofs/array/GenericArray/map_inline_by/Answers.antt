use Rattle.ga_core.proofs.ActsLemmas.{answers_of_run}
use Rattle.ga_core.proofs.MadeLemmas.{ClosureRun-made, made-is_written}
use Rattle.ga_core.proofs.array.GenericArray.map_inline_by.Goals as goal
use Rattle.std.proofs.Common.{sym, ◌∙◌}

pub write_mapped-requires-clause-callable : goal.write_mapped-requires-clause-callable
write_mapped-requires-clause-callable g c = λ passed x others ys reached whole.
    c.requires.callable passed x others ys reached (sym c.as_mut_slice.ensures.items ∙ whole)

pub returns : goal.returns
returns g c =
    let made = c.repack.ensures ∙ made-is_written c.as_mut_slice-2.ensures.items c.write_mapped.auto.slots in
    let run = ClosureRun-made (goal.F-step g) _ _ c.as_mut_slice.ensures.items made c.write_mapped.ensures.run in
    record { run = run; acts = λ h acts. answers_of_run _ _ h acts _ _ _ run }
