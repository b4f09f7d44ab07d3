use Rattle.ga_hashes.proofs.BufferLemmas.{MayTake-more}
use Rattle.ga_hashes.proofs.PieceLemmas.{pieces-cut, pieces-more}
use Rattle.ga_hashes.proofs.block_buffer.feed_pieces.Goals as goal
use Rattle.ga_hashes.specs.BlockBuffer.{HasFed}
use Rattle.std.proofs.Common.{ℕ, ◌+◌, Bor, List, [], ap, arith, drop, get_or, length, length-append, subst, sym, take}
use Rattle.std.specs.List.{flat_map}

pub feed-requires : goal.feed-requires
feed-requires g c =
    let pieces = c.args.pieces.now in
    let i = c.loop-piece.piece-index in
    let d : Bor (List ℕ) = record { ref_ptr = (0, 0); now = [] } in
    record {
      callable = MayTake-more c.requires.width (goal.F-pre g) (get_or pieces i d).now
          (flat_map (λ piece. piece.now) (drop (i + 1) pieces))
          (pieces-cut (λ piece. piece.now) pieces i d (omega arith)) c.requires.callable c.loop-piece.invariant.0;
    }

pub loop-piece-preserved : goal.loop-piece-preserved
loop-piece-preserved g c =
    let pieces = c.args.pieces.now in
    let i = c.loop-piece.piece-index in
    let d : Bor (List ℕ) = record { ref_ptr = (0, 0); now = [] } in
    let message = flat_map (λ piece. piece.now) (take i pieces) in
    let more = pieces-more (λ piece. piece.now) pieces i d (omega arith) in (
      subst (λ m. HasFed (λ slice. slice.now) (goal.F-step g) g.N.Unsigned.USIZE c.args.f.now m c.feed.new.self.kept
          c.feed.new.f) (sym more)
          (c.feed.ensures.whole c.args.f.now message c.loop-piece.invariant.0),
      omega (arith, c.feed.ensures.len, c.loop-piece.invariant.1, simp length-append at (ap length more)),
    )
