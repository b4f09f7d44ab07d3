use Rattle.ga_headline.proofs.whole.map_walk.Goals as goal
use Rattle.generic_array.specs.Built.{built_items}
use Rattle.generic_array.specs.Entries.{CallAt, MayCallAt}
use Rattle.generic_array.specs.Runs.{TryClosureRun}
use Rattle.generic_array.specs.Steps.{MaySteps}
use Rattle.std.proofs.Common.{ap, subst, sym}

-- the calls came to the items of what was made, and the steps may be made on these
pub run_steps-requires : goal.run_steps-requires
run_steps-requires g c =
    let run = subst (λ answer. TryClosureRun (CallAt g.S.GenericSequence.entry (goal.F-step g)) c.args.f.now
    (g.S.AsSlice.items c.args.s) answer c.try_map_by.new.f)
    (ap (built_items g.S.Mapped.Sequence.AsSlice.items) c.in-Ok-Ok.field-0-is) c.in-Ok-Ok.ensures.run in
    record {
      callable = subst (λ items. MaySteps (MayCallAt (λ slice. slice.now) (goal.G-pre g))
          (CallAt (λ slice. slice.now) (goal.G-step g)) (items, c.args.look.now) c.args.steps.items)
          (sym c.into_two_ended-left.ensures) (c.requires.then_callable _ _ run);
    }

pub returns-in-Ok-clause-ok : goal.returns-in-Ok-clause-ok
returns-in-Ok-clause-ok g c =
    let run = subst (λ answer. TryClosureRun (CallAt g.S.GenericSequence.entry (goal.F-step g)) c.args.f.now
    (g.S.AsSlice.items c.args.s) answer c.try_map_by.new.f)
    (ap (built_items g.S.Mapped.Sequence.AsSlice.items) c.in-Ok-Ok.field-0-is) c.in-Ok-Ok.ensures.run in
    let (given, more, ran, account) = rw c.into_two_ended-left.ensures at c.in-Ok.ensures.run in
    (_, given, run, more, ran, account)

pub returns-in-Err-run_steps-clause-stopped : goal.returns-in-Err-run_steps-clause-stopped
returns-in-Err-run_steps-clause-stopped g c =
    let run = subst (λ answer. TryClosureRun (CallAt g.S.GenericSequence.entry (goal.F-step g)) c.args.f.now
    (g.S.AsSlice.items c.args.s) answer c.try_map_by.new.f)
    (ap (built_items g.S.Mapped.Sequence.AsSlice.items) c.in-Ok-Ok.field-0-is) c.in-Ok-Ok.ensures.run in
    (_, run)
