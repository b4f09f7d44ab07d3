use Rattle.generic_array.proofs.functional.FunctionalSequence.try_map.Goals as goal

pub returns-clause-run : goal.returns-clause-run
returns-clause-run g c = (c.try_map_by.new.f, c.try_map_by.ensures.run)
