use Rattle.ga_boxed.proofs.boxed_array.BoxedArray.try_from_boxed_slice.Goals as goal

pub returns : goal.returns
returns g c =
    let took = c.try_from_vec.ensures in
    let same = c.into_vec.ensures.items in
    record {
      variant = rw same at took.variant;
      ok = rw same at took.ok;
      other = rw same at took.other;
      empty = took.empty;
    }
