use Rattle.ga_rows.proofs.buffer.Piece.push_numbers_back.Given as goal
use Rattle.std.proofs.Common.{◌≡◌, ◌+◌, ◌*◌, ◌≤◌, ◌++◌, codes, decimal, length, map, take, flat_map}

-- the numbers so far stand behind the last, each after a space
abbrev pub invariant-loop-number : goal.invariant-loop-number
invariant-loop-number l = record {
  text : take l.end l.self-inside.bytes ≡ take l.initial.end l.initial.self-inside.bytes
      ++ flat_map (λ number. codes " " ++ decimal number) (map (λ place. place.now) l.yielded);
  room : l.end + 1 ≤ length l.fn.self + 4 * (length l.yielded + 1);
}
