use Rattle.ga_boxed.proofs.boxed_array.BoxedArray.zip_ref.Goals as goal

pub returns-clause-run : goal.returns-clause-run
returns-clause-run g c = (c.zip_ref_by.new.f, c.zip_ref_by.ensures.run)
