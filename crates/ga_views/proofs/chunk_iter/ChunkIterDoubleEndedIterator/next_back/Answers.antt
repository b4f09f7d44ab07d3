use Rattle.ga_views.proofs.RowLemmas.{last-split}
use Rattle.ga_views.proofs.chunk_iter.ChunkIterDoubleEndedIterator.next_back.Given as given
use Rattle.ga_views.proofs.chunk_iter.ChunkIterDoubleEndedIterator.next_back.Goals as goal
use Rattle.ga_views.specs.Rows.{chunk_count, rows}
use Rattle.std.proofs.Common.{[], arith, length, sym, ◌*◌, ◌++◌, ◌<◌, ◌∙◌, ◌∷◌, ◌≡◌}

-- where no row is held, none is left
pub returns-then-not-has_row-clause-steps : goal.returns-then-not-has_row-clause-steps
returns-then-not-has_row-clause-steps g c =
    let none = sym c.self.view_is ∙ (rw c.USIZE-width.ensures at (c.has_row.ensures.none c.if-not-has_row.true)) in
    (none, none)

pub from_slice-requires : goal.from_slice-requires
from_slice-requires g c = record {
  len = omega (arith, (c.has_row.ensures.some c.if-not-has_row.false).1, c.split_at.ensures.back_len);
}

-- what is split off is the last of the rows that are left
split : (g : given.Over) (c : goal.After-from_slice g)
    → let left = c.split_at.result.0.now in let width = g.N.Unsigned.USIZE in
    (c.args.self.now ≡ rows width left ++ c.from_slice.result.slice.now ∷ [])
    × (length left ≡ chunk_count width left * width) × (length (rows width left) < length c.args.self.now)
split g c =
    let cut = c.split_at.ensures in
    rw (← c.self.view_is, c.from_slice.ensures ∙ cut.back, cut.front, c.USIZE-width.ensures)
    (last-split _ _ c.self.invariant (rw c.USIZE-width.ensures at (c.has_row.ensures.some c.if-not-has_row.false)))

pub returns-clause-steps : goal.returns-clause-steps
returns-clause-steps g c = (split g c).0

pub returns-clause-goes : goal.returns-clause-goes
returns-clause-goes g c = record { on = λ _. (tt, tt, (split g c).2); keeps = tt; rests = λ _. tt }
