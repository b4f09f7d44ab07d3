use Rattle.generic_array.proofs.checks.map_total_by.Goals as goal
use Rattle.std.proofs.Common.{◌∙◌, ap, fold, refl}

pub map_by-requires-clause-fits : goal.map_by-requires-clause-fits
map_by-requires-clause-fits g c = c.requires.fits

pub map_by-requires-clause-callable : goal.map_by-requires-clause-callable
map_by-requires-clause-callable g c = c.requires.callable

pub fold_made-requires-clause-callable : goal.fold_made-requires-clause-callable
fold_made-requires-clause-callable g c = c.requires.then_callable _ _ c.in-Ok.ensures.run

pub returns-in-Ok : goal.returns-in-Ok
returns-in-Ok g c = record {
  run = (_, c.in-Ok.ensures.run, c.fold_made.ensures.run);
  acts = λ h k acts then_acts.
      c.fold_made.ensures.acts k then_acts ∙ ap (fold k c.args.init) (c.in-Ok.ensures.acts h acts);
  err = tt;
  promised = λ promised. refl;
}

pub returns-in-Err : goal.returns-in-Err
returns-in-Err g c = record {
  run = tt;
  acts = tt;
  err = (c.in-Err.ensures.err, refl);
  promised = c.in-Err.ensures.promised;
}
