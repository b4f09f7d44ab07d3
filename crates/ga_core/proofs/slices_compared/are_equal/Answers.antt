use Rattle.ga_core.proofs.PairLemmas.{start-tells}
use Rattle.ga_core.proofs.slices_compared.are_equal.Goals as goal

pub returns-else-left-block_of : goal.returns-else-left-block_of
returns-else-left-block_of g c =
    let start = c.equal_start.ensures in
    record { equal = start-tells _ _ _ _ c.requires.len start.within start.equal start.differs }

pub returns-then-size_of_val-gt-MOST_BYTES : goal.returns-then-size_of_val-gt-MOST_BYTES
returns-then-size_of_val-gt-MOST_BYTES g c = record { equal = c.eq-then-size_of_val-gt-MOST_BYTES.ensures }

pub returns-then-left-block_of : goal.returns-then-left-block_of
returns-then-left-block_of g c = record { equal = c.all_match.ensures.equal }

pub returns-in-None : goal.returns-in-None
returns-in-None g c = record { equal = c.eq.ensures }
