use Rattle.ga_hashes.proofs.BufferLemmas.{HasFed-few, HasFed-more, MayTake-more}
use Rattle.ga_hashes.proofs.PaddingLemmas.{padding-after_mark, padding-in_turn, padding-kept}
use Rattle.ga_hashes.proofs.block_buffer.BlockBuffer.finish.Given as given
use Rattle.ga_hashes.proofs.block_buffer.BlockBuffer.finish.Goals as goal
use Rattle.ga_hashes.proofs.block_buffer.BlockBuffer.finish.Goals.{After-feed_zeros, After-zero_count-zeros}
use Rattle.ga_hashes.specs.BlockBuffer.{HasFed, padding, zero_count}
use Rattle.std.proofs.Common.{◌≡◌, ◌<◌, ◌*◌, ◌∷◌, [], ◌++◌, ap, append-nil, arith, length, refl, replicate, sym, ◌∙◌}
use Rattle.std.specs.Int.{to_be_bytes, w64}

-- fewer bytes are kept than fill a block
few : (g : given.Over) (c : After-zero_count-zeros g) → length c.args.self.kept < g.N.Unsigned.USIZE
few g c = omega (arith, ap (λ v. length v.kept) c.buffer.view_is, c.buffer.invariant.0)

-- and they were fed
begun : (g : given.Over) (c : After-zero_count-zeros g)
    → HasFed (λ slice. slice.now) (goal.F-step g) g.N.Unsigned.USIZE c.args.f.now c.args.self.kept c.args.self.kept
    c.args.f.now
begun g c = HasFed-few (omega (arith, few g c)) (few g c)

-- the mark may be fed
pub feed-requires : goal.feed-requires
feed-requires g c =
    let early = (goal.at.feed-requires g c).After-zero_count-zeros in
    let zeros = zero_count g.N.Unsigned.USIZE (length c.args.self.kept) in
    record {
      callable = MayTake-more (omega (arith, few g early)) (goal.F-pre g) (128 ∷ [])
          (replicate zeros 0 ++ to_be_bytes w64 (8 * c.args.self.len)) refl c.requires.callable (begun g early);
    }

-- and then the zeros
pub feed_zeros-requires-clause-callable : goal.feed_zeros-requires-clause-callable
feed_zeros-requires-clause-callable g c =
    let early = (goal.at.feed_zeros-requires-clause-callable g c).After-zero_count-zeros in
    let kept = c.args.self.kept in
    let bits = to_be_bytes w64 (8 * c.args.self.len) in
    let whole = padding-after_mark g.N.Unsigned.USIZE kept c.args.self.len c.zero_count-zeros.result bits
    c.zero_count-zeros.ensures.count refl in
    MayTake-more (omega (arith, few g early)) (goal.F-pre g) (replicate c.zero_count-zeros.result 0) bits whole
    c.requires.callable (c.feed.ensures.whole c.args.f.now kept (begun g early))

-- mark and zeros were fed
filled : (g : given.Over) (c : After-feed_zeros g)
    → HasFed (λ slice. slice.now) (goal.F-step g) g.N.Unsigned.USIZE c.args.f.now c.args.self.kept c.args.self.kept
    c.args.f.now
    → HasFed (λ slice. slice.now) (goal.F-step g) g.N.Unsigned.USIZE c.args.f.now
    ((c.args.self.kept ++ 128 ∷ []) ++ replicate c.zero_count-zeros.result 0) c.feed_zeros.new.self.kept
    c.feed_zeros.new.f
filled g c fed = c.feed_zeros.ensures c.args.f.now (c.args.self.kept ++ 128 ∷ [])
    (c.feed.ensures.whole c.args.f.now c.args.self.kept fed)

-- and with the length behind them that is all
in_turn : (g : given.Over) (c : After-feed_zeros g)
    → c.args.self.kept ++ padding g.N.Unsigned.USIZE (length c.args.self.kept) c.args.self.len
    ≡ ((c.args.self.kept ++ 128 ∷ []) ++ replicate c.zero_count-zeros.result 0) ++ c.to_be_bytes-bits.result
in_turn g c =
    let told : c.to_be_bytes-bits.result ≡ to_be_bytes w64 (8 * c.args.self.len) =
    c.to_be_bytes-bits.ensures ∙ ap (λ v. to_be_bytes w64 (8 * v.len)) c.buffer.view_is in
    padding-in_turn g.N.Unsigned.USIZE c.args.self.kept c.args.self.len c.zero_count-zeros.result
    c.to_be_bytes-bits.result c.zero_count-zeros.ensures.count told

-- and then the length
pub feed-requires-2 : goal.feed-requires-2
feed-requires-2 g c =
    let at = goal.at.feed-requires-2 g c in
    let early = at.After-zero_count-zeros in
    let so_far = at.After-feed_zeros in
    let bits = c.to_be_bytes-bits.result in
    let message = (c.args.self.kept ++ 128 ∷ []) ++ replicate c.zero_count-zeros.result 0 in
    record {
      callable = MayTake-more (omega (arith, few g early)) (goal.F-pre g) bits []
          (in_turn g so_far ∙ ap (λ b. message ++ b) (sym (append-nil bits)))
          c.requires.callable (filled g so_far (begun g early));
    }

pub returns-clause-blocks : goal.returns-clause-blocks
returns-clause-blocks g c =
    let at = goal.at.returns-clause-blocks g c in
    let so_far = at.After-feed_zeros in
    let message = (c.args.self.kept ++ 128 ∷ []) ++ replicate c.zero_count-zeros.result 0 in
    let done = c.feed-2.ensures.whole c.args.f.now message (filled g so_far (begun g at.After-zero_count-zeros)) in
    rw (in_turn g so_far) done.blocks

pub returns-clause-whole : goal.returns-clause-whole
returns-clause-whole g c first message fed len =
    let width = g.N.Unsigned.USIZE in
    let kept = c.args.self.kept in
    let last = padding width (length kept) c.args.self.len in
    let more = HasFed-more (omega (arith, few g (goal.at.returns-clause-whole g c).After-zero_count-zeros)) last
    fed (returns-clause-blocks g c) refl in
    rw (← padding-kept width message kept fed.rest c.args.self.len len) more.blocks
