use Rattle.ga_hashes.proofs.BufferLemmas.{MayTake-first, MayTake-others, TakesEach-first, TakesEach-none}
use Rattle.ga_hashes.proofs.block_buffer.BlockBuffer.feed_blocks.Given as given
use Rattle.ga_hashes.proofs.block_buffer.BlockBuffer.feed_blocks.Goals as goal
use Rattle.ga_hashes.proofs.block_buffer.BlockBuffer.feed_blocks.Goals.{After-as_slice}
use Rattle.ga_core.proofs.JoinLemmas.{chunk_rest-behind, rows-behind}
use Rattle.ga_core.proofs.RowLemmas.{chunk_rest-few, rows-few}
use Rattle.ga_core.specs.Rows.{rows}
use Rattle.std.proofs.Common.{◌≡◌, [], ◌∷◌, ◌++◌, ◌<◌, ap, arith, length, length-append, rules, sym, ◌∙◌}
use Rattle.std.proofs.lemmas.List.{nil_from_length}

-- the bytes fill no block
few : (g : given.Over) (c : goal.After-extend_from_slice g) → length (c.args.self.now.kept ++ c.args.bytes.now)
    < g.N.Unsigned.USIZE
few g c =
    let all = length-append c.args.self.now.kept c.args.bytes.now in
    omega (arith, ap (λ v. length v.kept) c.self.view_is, c.self.invariant.0)

pub returns-then-bytes-missing-clause-blocks : goal.returns-then-bytes-missing-clause-blocks
returns-then-bytes-missing-clause-blocks g c =
    let width = g.N.Unsigned.USIZE in
    let all = c.args.self.now.kept ++ c.args.bytes.now in
    TakesEach-none (λ slice. slice.now) (goal.F-step g) c.args.f.now (rows width all) (rows-few width all (few g c))

pub returns-then-bytes-missing-clause-kept : goal.returns-then-bytes-missing-clause-kept
returns-then-bytes-missing-clause-kept g c =
    let all = c.args.self.now.kept ++ c.args.bytes.now in
    c.extend_from_slice.ensures.items ∙ (ap (λ v. v.kept ++ c.args.bytes.now) c.self.view_is
    ∙ sym (chunk_rest-few g.N.Unsigned.USIZE all (few g c)))

pub hand_on_rows-requires-clause-callable : goal.hand_on_rows-requires-clause-callable
hand_on_rows-requires-clause-callable g c =
    let none : c.args.self.now.kept ≡ [] = nil_from_length c.args.self.now.kept
    (omega (arith, ap (λ v. length v.kept) c.self.view_is, c.self.invariant.0)) in
    rw none at c.requires.callable

-- the block that is full now and the bytes behind it are all bytes
joined : (g : given.Over) (c : After-as_slice g)
    → c.as_slice.result.now ++ c.complete-block.result.1.now ≡ c.args.self.now.kept ++ c.args.bytes.now
joined g c = ap (λ block. block ++ c.complete-block.result.1.now) c.as_slice.ensures.items
    ∙ (c.complete-block.ensures.parts ∙ ap (λ v. v.kept ++ c.args.bytes.now) c.self.view_is)

-- so the blocks of all bytes are that block and those behind it
blocks_are : (g : given.Over) (c : After-as_slice g)
    → rows g.N.Unsigned.USIZE (c.args.self.now.kept ++ c.args.bytes.now)
    ≡ c.as_slice.result.now ∷ rows g.N.Unsigned.USIZE c.complete-block.result.1.now
blocks_are g c = rows-behind g.N.Unsigned.USIZE (omega (arith, c.self.invariant.0)) c.as_slice.result.now
    c.complete-block.result.1.now (c.args.self.now.kept ++ c.args.bytes.now) (joined g c) c.as_slice.ensures.len

pub f-requires : goal.f-requires
f-requires g c = MayTake-first (λ slice. slice.now) (goal.F-step g) (goal.F-pre g) g.N.Unsigned.USIZE c.args.f.now
    c.as_slice.result (rows g.N.Unsigned.USIZE c.complete-block.result.1.now) c.as_slice.ensures.len
    (rw (blocks_are g (goal.at.f-requires g c).After-as_slice) at c.requires.callable)

pub hand_on_rows-requires-2-clause-callable : goal.hand_on_rows-requires-2-clause-callable
hand_on_rows-requires-2-clause-callable g c =
    MayTake-others (λ slice. slice.now) (goal.F-step g) (goal.F-pre g) g.N.Unsigned.USIZE c.args.f.now c.as_slice.result
    (rows g.N.Unsigned.USIZE c.complete-block.result.1.now) c.f.new.self c.f.ensures
    (rw (blocks_are g (goal.at.hand_on_rows-requires-2-clause-callable g c).After-as_slice) at c.requires.callable)

pub returns-clause-blocks : goal.returns-clause-blocks
returns-clause-blocks g c = rw (blocks_are g (goal.at.returns-clause-blocks g c).After-as_slice)
    (TakesEach-first (λ slice. slice.now) (goal.F-step g) c.args.f.now c.as_slice.result
    (rows g.N.Unsigned.USIZE c.complete-block.result.1.now) c.f.new.self c.hand_on_rows-2.new.f c.f.ensures
    (search rules))

pub returns-clause-kept : goal.returns-clause-kept
returns-clause-kept g c = c.hand_on_rows-2.ensures.kept
    ∙ sym (chunk_rest-behind g.N.Unsigned.USIZE (omega (arith, c.self.invariant.0)) c.as_slice.result.now
    c.complete-block.result.1.now (c.args.self.now.kept ++ c.args.bytes.now)
    (joined g (goal.at.returns-clause-kept g c).After-as_slice) c.as_slice.ensures.len)
