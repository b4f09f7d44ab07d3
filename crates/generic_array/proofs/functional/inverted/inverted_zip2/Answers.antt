use Rattle.generic_array.proofs.functional.inverted.inverted_zip2.Goals as goal

pub returns-clause-run : goal.returns-clause-run
returns-clause-run g c = (c.inverted_zip2_by.new.f, c.inverted_zip2_by.ensures.run)
