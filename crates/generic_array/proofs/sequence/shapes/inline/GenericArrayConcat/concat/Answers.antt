use Rattle.generic_array.proofs.ShapeLemmas.{all-taken}
use Rattle.generic_array.proofs.sequence.shapes.inline.GenericArrayConcat.concat.Goals as goal
use Rattle.std.proofs.Common.{◌≡◌, ◌++◌, ◌∙◌, refl, sym}
use Rattle.std.proofs.Math.Seq.{drop-append_seam, take-append_seam}

pub returns : goal.returns
returns g c =
    let self = c.into_iter-items.ensures.into_iter_gives in
    let rest = c.into_iter.ensures.into_iter_gives in
    let first = all-taken c.USIZE.result c.into_iter-items.result c.args.self self.0 (c.USIZE.ensures ∙ sym self.3) in
    let second = all-taken c.USIZE-2.result c.into_iter.result c.args.rest rest.0 (c.USIZE-2.ensures ∙ sym rest.3) in
    let joined : c.finish.result ≡ c.args.self ++ c.args.rest =
    rw (c.finish.ensures, c.take_from-2.ensures.taken, second, c.take_from.ensures.taken, c.new-both.ensures, first) refl in
    record {
      joined = joined;
      first = rw (joined, ← self.3) (take-append_seam c.args.self c.args.rest);
      rest = rw (joined, ← self.3) (drop-append_seam c.args.self c.args.rest);
    }
