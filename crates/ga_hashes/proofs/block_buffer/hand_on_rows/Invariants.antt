use Rattle.ga_hashes.proofs.BufferLemmas.{BlocksLeft}
use Rattle.ga_hashes.proofs.block_buffer.hand_on_rows.Given as goal
use Rattle.ga_core.specs.Rows.{rows}

-- the calls at the blocks that are left complete those at all blocks
abbrev pub invariant-loop-block : goal.invariant-loop-block
invariant-loop-block g l =
    let turns = goal.iterator-loop-block g in
    turns.can_next l.block-iterator × turns.is_finite l.block-iterator
    × BlocksLeft (λ slice. slice.now) (goal.F-step g) (goal.F-pre g) g.N.Unsigned.USIZE l.initial.f
    (rows g.N.Unsigned.USIZE l.fn.bytes) l.f l.block-iterator
