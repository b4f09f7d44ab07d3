use Rattle.ga_core.proofs.EntryActs.{answers_at_entries}
use Rattle.ga_core.proofs.MadeLemmas.{ClosureRun-made, made-is_written}
use Rattle.ga_core.proofs.borrowed_items.BorrowedItems.map_inline_ref_by.Goals as goal
use Rattle.ga_core.specs.Entries.{CallAt}
use Rattle.std.proofs.Common.{◌∙◌, sym}

pub write_mapped_ref-requires-clause-callable : goal.write_mapped_ref-requires-clause-callable
write_mapped_ref-requires-clause-callable g c = λ passed x others ys reached whole.
    c.requires.callable passed x others ys reached (sym c.as_slice-items.ensures.items ∙ whole)

pub returns : goal.returns
returns g c =
    let made = c.repack.ensures ∙ made-is_written c.as_mut_slice.ensures.items c.write_mapped_ref.auto.slots in
    let run = ClosureRun-made (CallAt (λ item. item.now) (goal.F-step g)) _ _ c.as_slice-items.ensures.items made
    c.write_mapped_ref.ensures.run in
    record { run = run; acts = λ h acts. answers_at_entries (λ item. item.now) _ _ h acts _ _ _ run }
