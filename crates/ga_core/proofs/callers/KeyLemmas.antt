-- Keys of bytes: their order, and what a sort and `dedup` leave of them.
use Rattle.std.proofs.Common.{ℕ, List, nat_eq, subst, sym, nat_cmp, []}
use Rattle.std.proofs.lemmas.Cmp.{nat_list_cmp_total}
use Rattle.std.proofs.lemmas.List.Filters.{dedup_is}
use Rattle.std.proofs.lemmas.List.Kept.{IsStrictlySortedBy-dedup}
use Rattle.std.specs.Cmp.{unsigned_ties}
use Rattle.std.specs.Cmp.Lexicographic.{lists_ties, pointwise, slice_cmp}
use Rattle.std.specs.List.Retain.{DiffersFromLast, IsFiltered}
use Rattle.std.specs.List.Sorted.{IsSorted, IsStrictlySortedBy}

-- sorted keys ascend strictly once `dedup` has gone over them
pub strictly_sorted : (sorted left : List (List ℕ)) → IsSorted (slice_cmp nat_cmp) sorted
    → IsFiltered (DiffersFromLast (pointwise nat_eq)) [] sorted left → IsStrictlySortedBy (slice_cmp nat_cmp) left
strictly_sorted sorted left in_order filtered =
    subst (IsStrictlySortedBy (slice_cmp nat_cmp)) (sym (dedup_is (pointwise nat_eq) sorted left filtered))
    (IsStrictlySortedBy-dedup nat_list_cmp_total (lists_ties nat_cmp unsigned_ties) sorted in_order)
