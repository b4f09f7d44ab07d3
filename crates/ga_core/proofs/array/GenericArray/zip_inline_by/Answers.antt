use Rattle.ga_core.proofs.EntryActs.{answers_at_pairs}
use Rattle.ga_core.proofs.MadeLemmas.{ClosureRun-made, made-is_written}
use Rattle.ga_core.proofs.ZipLemmas.{same-pairs}
use Rattle.ga_core.proofs.array.GenericArray.zip_inline_by.Goals as goal
use Rattle.ga_core.specs.Entries.{CallAtPair}
use Rattle.std.proofs.Common.{sym, ◌∙◌}

pub write_zipped-requires-clause-callable : goal.write_zipped-requires-clause-callable
write_zipped-requires-clause-callable g c = λ passed x others ys reached whole.
    c.requires.callable passed x others ys reached
    (sym (same-pairs c.as_mut_slice.ensures.items c.as_mut_slice-2.ensures.items) ∙ whole)

pub returns : goal.returns
returns g c =
    let made = c.repack.ensures ∙ made-is_written c.as_mut_slice-3.ensures.items c.write_zipped.auto.slots in
    let run = ClosureRun-made (CallAtPair (λ item. item) (λ item. item) (goal.F-step g)) _ _
    (same-pairs c.as_mut_slice.ensures.items c.as_mut_slice-2.ensures.items) made c.write_zipped.ensures.run in
    record { run = run; acts = λ h acts. answers_at_pairs (λ item. item) (λ item. item) _ _ h acts _ _ _ run }
