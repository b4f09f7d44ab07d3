use Rattle.generic_array.proofs.functional.FunctionalSequence.map.Goals as goal

pub returns-clause-run : goal.returns-clause-run
returns-clause-run g c = (c.map_by.new.f, c.map_by.ensures.run)
