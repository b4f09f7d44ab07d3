use Rattle.ga_views.proofs.CutLemmas.{last-by, nth_back-step, reverse-take}
use Rattle.ga_views.proofs.RowLemmas.{passed-items, passed-last}
use Rattle.ga_views.proofs.chunk_iter.ChunkIter.nth_back.Goals as goal
use Rattle.ga_views.specs.Rows.{rows}
use Rattle.std.proofs.Common.{◌-◌, ◌*◌, ◌∙◌, ap, arith, length, min, reverse, take}
use Rattle.std.specs.Option.{option_map}

-- no more rows are passed over than are left, and they lie within the items
pub slice_bounds-self-count : goal.slice_bounds-self-count
slice_bounds-self-count g c = passed-items _ c.args.n c.self.view_is c.min.ensures c.len.ensures c.USIZE.ensures

pub overflow_mul-passed : goal.overflow_mul-passed
overflow_mul-passed g c = record {
  fits = omega (arith, c.self.told, passed-items _ c.args.n c.self.view_is c.min.ensures c.len.ensures c.USIZE.ensures);
}

pub invariant_of-self : goal.invariant_of-self
invariant_of-self g c = (passed-last _ c.args.n c.self.view_is c.min.ensures c.len.ensures c.USIZE.ensures c.self.invariant).0

-- `next_back` makes the step before the rows that are passed over
pub returns : goal.returns
returns g c =
    let items = c.args.self.now in
    let passed = c.min.result in
    let all = c.self.inside.left.now in
    let left = rows g.N.Unsigned.USIZE (take (length all - passed * c.USIZE.result) all) in
    let after = c.next_back.new.self in
    record {
      step = nth_back-step c.args.n passed items left (option_map (λ view. view.slice.now) c.next_back.result) after
          (c.min.ensures ∙ ap (min c.args.n) c.len.ensures)
          (ap reverse (passed-last _ c.args.n c.self.view_is c.min.ensures c.len.ensures c.USIZE.ensures c.self.invariant).1
          ∙ reverse-take items (length items - passed) passed (omega (arith, c.min.ensures, c.len.ensures)))
          (last-by (λ view. view.slice.now) left c.next_back.result after c.next_back.ensures.steps);
    }
