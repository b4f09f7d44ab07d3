use Rattle.std.proofs.Common.{map, take}
use Rattle.std.specs.List.{concat}
use Rattle.ga_hashes.proofs.hash_function.HashFunction.digest_of.Given as goal

-- the hash function was fed the pieces so far
abbrev pub invariant-loop-piece : goal.invariant-loop-piece
invariant-loop-piece g l =
    g.Self.HashFunction.holds l.hasher (concat (map (λ piece. piece.now) (take l.piece-index l.pieces)))
