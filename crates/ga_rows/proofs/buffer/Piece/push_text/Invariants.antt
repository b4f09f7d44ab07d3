use Rattle.ga_rows.proofs.buffer.Piece.push_text.Given as goal
use Rattle.std.proofs.Common.{◌≡◌, ◌++◌, take}

-- the bytes so far stand behind the text
abbrev pub invariant-loop-byte : goal.invariant-loop-byte
invariant-loop-byte l = l.self ≡ l.initial.self ++ take l.byte-index l.byte-items
