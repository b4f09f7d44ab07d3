use Rattle.ga_core.proofs.EntryActs.{tries_at_entries}
use Rattle.ga_core.proofs.MadeLemmas.{TryClosureRun-made, made-is_written}
use Rattle.ga_core.proofs.borrowed_items.BorrowedItems.try_map_inline_ref_by.Goals as goal
use Rattle.ga_core.specs.Entries.{CallAt}
use Rattle.std.proofs.Common.{◌∙◌, Ok, ap, refl, sym}

pub try_write_mapped_ref-requires-clause-callable : goal.try_write_mapped_ref-requires-clause-callable
try_write_mapped_ref-requires-clause-callable g c =
    λ passed x others good reached whole. c.requires.callable passed x others good reached
    (sym c.as_slice-items.ensures.items ∙ whole)

pub returns-in-Ok : goal.returns-in-Ok
returns-in-Ok g c =
    let made = c.repack.ensures ∙ made-is_written c.as_mut_slice.ensures.items c.try_write_mapped_ref.auto.slots in
    let run = TryClosureRun-made (CallAt (λ item. item.now) (goal.F-step g)) _ _ c.as_slice-items.ensures.items
    (ap Ok made) c.in-Ok.ensures.run in
    record { run = run; acts = λ h acts. tries_at_entries (λ item. item.now) (goal.F-step g) c.args.f.now h acts _ _ _ run }

pub returns-in-Err : goal.returns-in-Err
returns-in-Err g c =
    let run = TryClosureRun-made (CallAt (λ item. item.now) (goal.F-step g)) _ _ c.as_slice-items.ensures.items refl
    c.in-Err.ensures.run in
    record { run = run; acts = λ h acts. tries_at_entries (λ item. item.now) (goal.F-step g) c.args.f.now h acts _ _ _ run }
