use Rattle.ga_hashes.proofs.block_buffer.feed_pieces.Given as goal
use Rattle.ga_hashes.specs.BlockBuffer.{HasFed, count_more}
use Rattle.std.proofs.Common.{◌≡◌, take, flat_map}

-- the pieces so far were fed as one message
abbrev pub invariant-loop-piece : goal.invariant-loop-piece
invariant-loop-piece g l =
    let message = flat_map (λ piece. piece.now) (take l.piece-index l.pieces) in
    HasFed (λ slice. slice.now) (goal.F-step g) g.N.Unsigned.USIZE l.initial.f message l.buffer.kept l.f
    × (l.buffer.len ≡ count_more 0 message)
