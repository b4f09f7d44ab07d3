use Rattle.ga_views.proofs.CutLemmas.{first-by, nth-step}
use Rattle.ga_views.proofs.RowLemmas.{passed-first, passed-items}
use Rattle.ga_views.proofs.chunk_iter.ChunkIter.nth.Goals as goal
use Rattle.ga_views.specs.Rows.{rows}
use Rattle.std.proofs.Common.{◌∙◌, ap, arith, min}
use Rattle.std.specs.Option.{option_map}

-- no more rows are passed over than are left, and they lie within the items
pub split_at-requires : goal.split_at-requires
split_at-requires g c = passed-items _ c.args.n c.self.view_is c.min.ensures c.len.ensures c.USIZE.ensures

pub overflow_mul-min : goal.overflow_mul-min
overflow_mul-min g c = record {
  fits = omega (arith, c.self.told, passed-items _ c.args.n c.self.view_is c.min.ensures c.len.ensures c.USIZE.ensures);
}

pub invariant_of-self : goal.invariant_of-self
invariant_of-self g c = rw c.split_at.ensures.back
    (passed-first _ c.args.n c.self.view_is c.min.ensures c.len.ensures c.USIZE.ensures c.self.invariant).0

-- `next` makes the step behind the rows that are passed over
pub returns : goal.returns
returns g c =
    let left = rows g.N.Unsigned.USIZE c.split_at.result.1.now in
    let after = c.next.new.self in
    record {
      step = nth-step c.args.n c.min.result c.args.self.now left
          (option_map (λ view. view.slice.now) c.next.result) after
          (c.min.ensures ∙ ap (min c.args.n) c.len.ensures)
          (ap (rows g.N.Unsigned.USIZE) c.split_at.ensures.back
          ∙ (passed-first _ c.args.n c.self.view_is c.min.ensures c.len.ensures c.USIZE.ensures c.self.invariant).1)
          (first-by (λ view. view.slice.now) left c.next.result after c.next.ensures.steps);
    }
