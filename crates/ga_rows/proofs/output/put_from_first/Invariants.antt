use Rattle.ga_rows.proofs.TextLemmas.{LinesSoFar}
use Rattle.ga_rows.proofs.output.put_from_first.Given as goal
use Rattle.generic_array.specs.Rows.{rows}
use Rattle.generic_array.specs.Views.{items_of_chunks}
use Rattle.std.proofs.Common.{◌≡◌, []}
use Rattle.std.specs.Io.KnownBytes.{append_known}

-- the lines so far, written or in the piece, and those of the rows that are left are the lines of all rows
abbrev pub invariant-loop-row : goal.invariant-loop-row
invariant-loop-row g l =
    let contents = g.W.Write.contents in
    let all = rows g.N.Unsigned.USIZE (items_of_chunks l.fn.chunks) in
    let left = l.row-iterator in
    record {
      text : LinesSoFar l.fn.mode all left (append_known (contents l.fn.w) l.fn.piece)
          (append_known (contents l.w) l.piece);
      empty : all ≡ [] → left ≡ [] × l.piece ≡ l.fn.piece;
    }
