-- What a caller names once, at the head of its crate's root file.
use Rattle.ga_core.proofs.callers.Everyday as inline
use Rattle.generic_array.proofs.ShapeLemmas.{flat_map_by_rows}

-- that of `ga_core`, and rows that a map made of items of another type
pub ruleset arrays = (inline.arrays, flat_map_by_rows)
