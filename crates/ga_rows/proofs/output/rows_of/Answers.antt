use Rattle.ga_rows.proofs.TextLemmas.{all-written}
use Rattle.ga_rows.proofs.output.rows_of.Goals as goal
use Rattle.std.proofs.KnownBytes.{Appends-trans}

pub returns-clause-text : goal.returns-clause-text
returns-clause-text g c =
    rw (← c.chunks_from_slice.ensures.rows, ← c.chunks_from_slice.ensures.rest)
    (all-written _ _ _ _ _ _ c.new-piece.ensures
    (Appends-trans _ _ _ _ _ c.in_ok-put_rows.ensures.text c.in_ok-put_rest.ensures.text)
    c.in_ok-hand_over.ensures.text)
