use Rattle.ga_views.proofs.array_ref.GenericArrayRef.fold.Goals as goal

pub returns-clause-run : goal.returns-clause-run
returns-clause-run g c = (c.fold_by.new.f, c.fold_by.ensures.run)
