use Rattle.ga_headline.proofs.whole.build_map_walk.Goals as goal
use Rattle.ga_headline.specs.Whole.{MapStoppedAt}
use Rattle.generic_array.specs.Entries.{CallAt}
use Rattle.generic_array.specs.Runs.{TryClosureRun}
use Rattle.std.proofs.Common.{subst}

pub map_walk-requires-clause-callable : goal.map_walk-requires-clause-callable
map_walk-requires-clause-callable g c =
    c.requires.callable _ _ (record { fill = c.in-Ok.ensures.fill; runs = c.in-Ok.ensures.runs })

pub map_walk-requires-clause-then_callable : goal.map_walk-requires-clause-then_callable
map_walk-requires-clause-then_callable g c = λ values reached run.
    c.requires.then_callable _ _ _ _ (record { fill = c.in-Ok.ensures.fill; runs = c.in-Ok.ensures.runs }) run

pub returns-in-Ok-map_walk-clause-ok : goal.returns-in-Ok-map_walk-clause-ok
returns-in-Ok-map_walk-clause-ok g c =
    let (values, given, run, more, ran, account) = c.in-Ok-map_walk.ensures.ok in (
      _,
      values,
      given,
      record { fill = c.in-Ok.ensures.fill; runs = c.in-Ok.ensures.runs },
      run,
      more,
      ran,
      account,
    )

pub returns-in-Err-Call-clause-stopped : goal.returns-in-Err-Call-clause-stopped
returns-in-Err-Call-clause-stopped g c = (
  _,
  record { fill = c.in-Ok.ensures.fill; runs = c.in-Ok.ensures.runs },
  subst (λ why. MapStoppedAt (TryClosureRun (CallAt g.S.GenericSequence.entry (goal.F-step g))) c.args.f.now
      (g.S.AsSlice.items c.in-Ok.made) why c.map_walk.new.f) c.in-Err-Call.field-0-is c.in-Err-Call.ensures.stopped,
)

pub returns-in-Err-NotMapped-clause-stopped : goal.returns-in-Err-NotMapped-clause-stopped
returns-in-Err-NotMapped-clause-stopped g c = (
  _,
  record { fill = c.in-Ok.ensures.fill; runs = c.in-Ok.ensures.runs },
  subst (λ why. MapStoppedAt (TryClosureRun (CallAt g.S.GenericSequence.entry (goal.F-step g))) c.args.f.now
      (g.S.AsSlice.items c.in-Ok.made) why c.map_walk.new.f) c.in-Err-NotMapped.field-0-is c.in-Err-NotMapped.ensures.stopped,
)

pub returns-in-Err-NotWalked-clause-stopped : goal.returns-in-Err-NotWalked-clause-stopped
returns-in-Err-NotWalked-clause-stopped g c = (
  _,
  record { fill = c.in-Ok.ensures.fill; runs = c.in-Ok.ensures.runs },
  subst (λ why. MapStoppedAt (TryClosureRun (CallAt g.S.GenericSequence.entry (goal.F-step g))) c.args.f.now
      (g.S.AsSlice.items c.in-Ok.made) why c.map_walk.new.f) c.in-Err-NotWalked.field-0-is c.in-Err-NotWalked.ensures.stopped,
)
