use Rattle.std.proofs.Common.{[]}
use Rattle.std.proofs.lemmas.List.{take_more, map-append, append-nil}
use Rattle.std.proofs.lemmas.List.Folds.{concat-append}
use Rattle.ga_hashes.proofs.hash_function.HashFunction.digest_of.Goals as goal

pub loop-piece-preserved : goal.loop-piece-preserved
loop-piece-preserved g c =
    let more = take_more c.args.pieces.now c.loop-piece.piece-index
    (record { ref_ptr = (0, 0); now = [] }) c.loop-piece-test.true in
    rw (more, map-append, concat-append, append-nil) (c.feed.ensures _ c.loop-piece.invariant)
