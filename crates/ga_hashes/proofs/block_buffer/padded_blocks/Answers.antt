use Rattle.ga_hashes.proofs.BufferLemmas.{MayTake-front, MayTake-more}
use Rattle.ga_hashes.proofs.PaddingLemmas.{padding-kept, with_padding-whole}
use Rattle.ga_hashes.proofs.block_buffer.padded_blocks.Goals as goal
use Rattle.ga_hashes.specs.BlockBuffer.{with_padding, padding}
use Rattle.ga_core.proofs.JoinLemmas.{rows-joined}
use Rattle.ga_core.specs.Rows.{chunk_rest, rows}
use Rattle.std.proofs.Common.{◌≡◌, [], ◌++◌, ap, append-nil, arith, length, sym, ◌∙◌, flat_map}

pub feed_pieces-buffer-requires-clause-callable : goal.feed_pieces-buffer-requires-clause-callable
feed_pieces-buffer-requires-clause-callable g c =
    let width = g.N.Unsigned.USIZE in
    let message = flat_map (λ piece. piece.now) c.args.pieces.now in
    let last = padding width (length message) (length message) in
    MayTake-front (λ slice. slice.now) (goal.F-step g) (goal.F-pre g) width c.args.f.now (rows width message)
    (rows width (chunk_rest width message ++ last))
    (rw (rows-joined width c.requires.width message last) at c.requires.callable)

pub finish-requires-clause-callable : goal.finish-requires-clause-callable
finish-requires-clause-callable g c =
    let width = g.N.Unsigned.USIZE in
    let message = flat_map (λ piece. piece.now) c.args.pieces.now in
    let kept = c.feed_pieces-buffer.result.kept in
    let len : c.feed_pieces-buffer.result.len ≡ length message =
    omega (arith, c.feed_pieces-buffer.ensures.len, c.requires.len) in
    let last = padding width (length kept) c.feed_pieces-buffer.result.len in
    let whole : with_padding width message ≡ message ++ (last ++ []) =
    ap (λ p. message ++ p)
    (sym (padding-kept width message kept c.feed_pieces-buffer.ensures.kept c.feed_pieces-buffer.result.len len)
    ∙ sym (append-nil last)) in
    MayTake-more c.requires.width (goal.F-pre g) last [] whole c.requires.callable
    (record { blocks = c.feed_pieces-buffer.ensures.blocks; rest = c.feed_pieces-buffer.ensures.kept })

pub returns-clause-blocks : goal.returns-clause-blocks
returns-clause-blocks g c =
    let message = flat_map (λ piece. piece.now) c.args.pieces.now in
    let len : c.feed_pieces-buffer.result.len ≡ length message =
    omega (arith, c.feed_pieces-buffer.ensures.len, c.requires.len) in
    c.finish.ensures.whole c.args.f.now message
    (record { blocks = c.feed_pieces-buffer.ensures.blocks; rest = c.feed_pieces-buffer.ensures.kept }) len

pub returns-clause-whole : goal.returns-clause-whole
returns-clause-whole g c = with_padding-whole g.N.Unsigned.USIZE c.requires.width
    (flat_map (λ piece. piece.now) c.args.pieces.now)
