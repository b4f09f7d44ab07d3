use Rattle.generic_array.proofs.sequence.FallibleGenericSequence.try_generate.Goals as goal

pub returns-clause-run : goal.returns-clause-run
returns-clause-run g c = (c.try_generate_by.new.f, c.try_generate_by.ensures.run)
