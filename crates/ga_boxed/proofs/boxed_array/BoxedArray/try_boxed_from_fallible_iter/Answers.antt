use Rattle.ga_boxed.proofs.boxed_array.BoxedArray.try_boxed_from_fallible_iter.Goals as goal

pub returns-clause-fill : goal.returns-clause-fill
returns-clause-fill g c = (
  c.try_boxed_from_fallible_iter_ref.new.items,
  c.try_boxed_from_fallible_iter_ref.ensures.fill,
)
