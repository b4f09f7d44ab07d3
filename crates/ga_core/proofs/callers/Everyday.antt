-- What a crate over inline arrays names once, in the line `#![tactic(auto, ..)]` of its root file.
use Rattle.ga_core.proofs.callers.EditLemmas.{edits}
use Rattle.ga_core.proofs.callers.JoinLemmas.{row_joins}
use Rattle.ga_core.proofs.callers.NestedLemmas.{rows_decide, unchanged}
use Rattle.ga_core.proofs.callers.OrderLemmas.{ordered}
use Rattle.ga_core.proofs.callers.PlaceLemmas.{repeated}
use Rattle.ga_core.proofs.callers.QueueLemmas.{queue}
use Rattle.ga_core.proofs.callers.RingLemmas.{ring}
use Rattle.ga_core.proofs.callers.SearchLemmas.{finds}
use Rattle.ga_core.proofs.callers.SignedLemmas.{kept}
use Rattle.ga_core.proofs.callers.TableLemmas.{tables}
use Rattle.ga_core.proofs.callers.TakenLemmas.{takings}
use Rattle.ga_views.proofs.callers.RowSetLemmas.{row_writes, rows_mapped_all, rows_mapped_more}
use Rattle.std.proofs.lemmas.List.{length-append}
use Rattle.std.proofs.lemmas.List.Sorted.{searched}

-- `grind` takes so many instances at most. So each lemma is here for a caller that needs it, and no other is: next to
-- `nat_list_cmp_total` the mean of two signed items stays open, and next to `common_steps` sums of signed results too.
pub ruleset arrays = (
  takings,
  row_joins,
  length-append,
  row_writes,
  rows_mapped_more,
  rows_mapped_all,
  rows_decide,
  unchanged,
  repeated,
  searched,
  ring,
  queue,
  ordered,
  tables,
  kept,
  finds,
  edits,
)
