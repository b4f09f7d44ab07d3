use Rattle.ga_core.proofs.RowSetLemmas.{chunk_rest-whole_set, rows-whole, rows-whole_set}
use Rattle.ga_core_examples.proofs.row_writes.reverse_whole_rows.Goals as goal
use Rattle.std.proofs.Common.{ap, map, reverse, sym, ◌∙◌}

pub returns : goal.returns
returns g c =
    let cut = c.whole_and_rest-whole.ensures in
    let same = c.reverse_rows.auto.slice in
    record {
      rows = rows-whole_set _ _ _ _ _ cut.parts cut.whole same
          ∙ (c.reverse_rows.ensures ∙ ap (map reverse) (sym (rows-whole _ _ _ _ cut.parts cut.whole)));
      rest = chunk_rest-whole_set _ _ _ _ _ cut.parts cut.whole same;
    }
