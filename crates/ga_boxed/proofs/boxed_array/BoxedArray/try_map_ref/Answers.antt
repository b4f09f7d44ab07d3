use Rattle.ga_boxed.proofs.boxed_array.BoxedArray.try_map_ref.Goals as goal

pub returns-clause-run : goal.returns-clause-run
returns-clause-run g c = (c.try_map_ref_by.new.f, c.try_map_ref_by.ensures.run)
