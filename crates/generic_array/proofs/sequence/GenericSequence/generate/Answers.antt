use Rattle.generic_array.proofs.sequence.GenericSequence.generate.Goals as goal

pub returns-clause-run : goal.returns-clause-run
returns-clause-run g c = (c.generate_by.new.f, c.generate_by.ensures.run)
