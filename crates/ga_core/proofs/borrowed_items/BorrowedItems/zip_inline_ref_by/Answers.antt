use Rattle.ga_core.proofs.EntryActs.{answers_at_pairs}
use Rattle.ga_core.proofs.MadeLemmas.{ClosureRun-made, made-is_written}
use Rattle.ga_core.proofs.ZipLemmas.{same-pairs}
use Rattle.ga_core.proofs.borrowed_items.BorrowedItems.zip_inline_ref_by.Goals as goal
use Rattle.ga_core.specs.Entries.{CallAtPair}
use Rattle.std.proofs.Common.{sym, ◌∙◌}

-- the slices that are borrowed are the items
pub write_zipped_ref-requires-clause-callable : goal.write_zipped_ref-requires-clause-callable
write_zipped_ref-requires-clause-callable g c = λ passed x others ys reached whole.
    c.requires.callable passed x others ys reached
    (sym (same-pairs c.as_slice-items.ensures.items c.as_slice.ensures.items) ∙ whole)

-- what was written over the slots is what is made, by the run over both
pub returns : goal.returns
returns g c =
    let made = c.repack.ensures ∙ made-is_written c.as_mut_slice.ensures.items c.write_zipped_ref.auto.slots in
    let run = ClosureRun-made (CallAtPair (λ item. item.now) (λ item. item.now) (goal.F-step g)) _ _
    (same-pairs c.as_slice-items.ensures.items c.as_slice.ensures.items) made c.write_zipped_ref.ensures.run in
    record { run = run; acts = λ h acts. answers_at_pairs (λ item. item.now) (λ item. item.now) _ _ h acts _ _ _ run }
