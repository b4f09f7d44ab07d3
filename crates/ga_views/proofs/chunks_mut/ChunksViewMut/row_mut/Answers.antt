use Rattle.ga_views.proofs.RowLemmas.{length-row, row-within}
use Rattle.ga_views.proofs.ChunksViewMutLemmas.{same_part, same_rows}
use Rattle.ga_views.proofs.chunks_mut.ChunksViewMut.row_mut.Goals as goal
use Rattle.ga_views.specs.ChunksViewMut.{whole-written}
use Rattle.ga_views.specs.Rows.{row_at}
use Rattle.std.proofs.Common.{◌≡◌, ◌*◌, ap, arith, length, ◌∙◌}
use Rattle.std.specs.Prelude.{refl}

-- the row ends within the items
pub part_mut-requires : goal.part_mut-requires
part_mut-requires g c = record {
  in_bounds = omega (arith, c.start_of-start.ensures, c.USIZE.ensures, row-within _ _ c.args.index c.requires.in_bounds);
}

-- no rest is left whatever is written
pub invariant_of-self-lent : goal.invariant_of-self-lent
invariant_of-self-lent g c = λ row. (
  whole-written g.row.S g.row.T g.row.N g.S.ReborrowSlice g.N.Unsigned c.args.self.now _,
  tt,
)

-- the part is the row at the index
pub returns : goal.returns
returns g c =
    let items = g.S.ReborrowSlice.items c.args.self.now.slice in
    let width = g.N.Unsigned.USIZE in
    let row : c.part_mut.result.now ≡ row_at width items c.args.index =
    rw (c.part_mut.ensures.items, c.USIZE.ensures, c.start_of-start.ensures) refl in (
      (
        refl,
        λ written. same_rows c.args.self.now _ _ _ _ (same_part c.args.self.now items written c.start_of-start.result
            (c.args.index * width) c.USIZE.result width c.start_of-start.ensures c.USIZE.ensures),
      ),
      record {
        writes_back = _;
        row = row;
        len = ap length row ∙ length-row width items c.args.index c.requires.in_bounds;
      },
    )
