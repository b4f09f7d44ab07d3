use Rattle.ga_core.proofs.FillLemmas.{Asks-from_fill, FillRuns-from_fill, fill-ends}
use Rattle.ga_core.proofs.array.GenericArray.try_from_iter_ref.Goals as goal
use Rattle.ga_core.specs.Fill.{Fills}
use Rattle.std.proofs.Common.{refl}

pub returns : goal.returns
returns g c =
    let next = g.I.Iterator.next_gives in
    let n = g.N.Unsigned.USIZE in
    let result = c.finish_at_end.result in
    let after = c.finish_at_end.new.items in
    let taken = c.fill.ensures.taken in
    let ends = fill-ends next (λ items. items) (λ items. refl) c.args.items.now c.fill.new.items after n taken.0
    c.new-builder.ensures taken.1 result taken.2 c.finish_at_end.ensures.ok c.finish_at_end.ensures.err in
    let fill : Fills next c.args.items.now n result after = (taken.0, ends.0, ends.1, ends.2) in
    record {
      fill = fill;
      runs = FillRuns-from_fill next c.args.items.now n result after fill;
      asks = Asks-from_fill next c.args.items.now n result after fill;
    }
