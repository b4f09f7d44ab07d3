use Rattle.ga_ciphers.proofs.KeystreamLemmas.{IsCurrent-further, piece_more}
use Rattle.ga_ciphers.proofs.counter_mode.CounterMode.apply_all.Goals as goal
use Rattle.std.proofs.Common.{◌≡◌, ◌+◌, ◌-◌, ◌/◌, ◌%◌, ◌≤◌, ap, ap₂, arith, length, min, refl, slice_range, sym, ◌∙◌}
use Rattle.std.proofs.Math.Nat.{mod-lt}

-- the piece was put under the key stream's bytes at its place
pub pieces-preserved : goal.pieces-preserved
pieces-preserved g c =
    let block = g.C.BlockStream.block c.args.self.now.cipher in
    let width = g.C.BlockSize.Unsigned.USIZE in
    let some = g.met.C.BlockStream.some in
    let position = c.pieces.self-inside.position in
    let text = c.args.bytes.now in
    let so_far = c.pieces.invariant in
    let count = c.min-count.result in
    let kept = c.make_current.new.block in
    let is : kept ≡ block (position / width) = c.make_current.ensures
    ∙ ap (λ cipher. g.C.BlockStream.block cipher (position / width)) so_far.cipher in
    let full : length kept ≡ width = ap length (sym c.as_slice.ensures.items) ∙ c.as_slice.ensures.len in
    let counted : count ≡ min (length c.pieces.bytes - c.pieces.done) (width - position % width) =
    cc (c.min-count.ensures, c.USIZE-in-pieces.ensures, c.USIZE.ensures) in
    let long : length c.pieces.bytes ≡ length text = c.pieces.auto.bytes in
    let in_block : position % width + count ≤ width = omega (arith, counted, mod-lt position some) in
    let part = ap₂ (λ w xs. slice_range xs (position % w) (position % w + count)) c.USIZE.ensures
    c.as_slice.ensures.items in
    record {
      cipher = so_far.cipher;
      position = omega arith;
      current = IsCurrent-further width some position block kept count (position + count) is in_block refl;
      done = omega (arith, counted, long, so_far.done);
      text = c.xor_piece.ensures ∙ piece_more block width c.args.self.now.position text some position c.pieces.done
          count c.pieces.bytes kept counted long so_far.done so_far.position full is so_far.text _ part;
    }
