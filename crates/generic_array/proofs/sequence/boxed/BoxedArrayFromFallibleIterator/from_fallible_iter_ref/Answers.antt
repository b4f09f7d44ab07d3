use Rattle.generic_array.proofs.BuiltLemmas.{built_items-same}
use Rattle.generic_array.proofs.sequence.boxed.BoxedArrayFromFallibleIterator.from_fallible_iter_ref.Goals as goal

pub returns : goal.returns
returns g c =
    let same = built_items-same c.try_boxed_from_fallible_iter_ref.result in
    record {
      fill = rw same c.try_boxed_from_fallible_iter_ref.ensures.fill;
      runs = rw same c.try_boxed_from_fallible_iter_ref.ensures.runs;
      can_on = c.try_boxed_from_fallible_iter_ref.ensures.can_on;
      err = c.try_boxed_from_fallible_iter_ref.ensures.err;
      promised = c.try_boxed_from_fallible_iter_ref.ensures.empty;
    }
