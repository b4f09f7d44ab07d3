use Rattle.generic_array.proofs.BuiltLemmas.{built_items-same, item-placed, placed-from}
use Rattle.generic_array.proofs.sequence.inline.GenericArrayFromFallibleIterator.from_fallible_iter_ref.Goals as goal

pub returns : goal.returns
returns g c =
    let same = built_items-same c.with_no_place.result in
    let filled = c.with_no_place.ensures in
    record {
      fill = rw same (placed-from _ _ _ filled.same c.try_from_fallible_iter_ref.ensures.fill);
      runs = rw same (placed-from _ _ _ filled.same c.try_from_fallible_iter_ref.ensures.runs);
      can_on = λ error is. item-placed _ _ error is filled.same c.try_from_fallible_iter_ref.ensures.can_on;
      err = λ refused is. elim refused [ ];
      promised = λ promised. filled.placed;
    }
