use Rattle.ga_hashes.proofs.BufferLemmas.{BlocksLeft-callable, BlocksLeft-end, BlocksLeft-more, BlocksLeft-start}
use Rattle.ga_hashes.proofs.block_buffer.hand_on_rows.Given as given
use Rattle.ga_hashes.proofs.block_buffer.hand_on_rows.Goals as goal
use Rattle.std.proofs.Common.{◌≡◌, ◌∷◌, ap, rules, sym, ◌∙◌}

pub loop-block-init : goal.loop-block-init
loop-block-init g c =
    let same = c.into_iter-block-iterator.ensures.into_iter_gives
    ∙ (c.iter-block-items.ensures.rows ∙ c.chunks_from_slice.ensures.rows) in
    (tt, tt, BlocksLeft-start c.into_iter-block-iterator.result same c.requires.callable)

-- the slice of the view is the next block
next : (g : given.Over) (c : goal.After-as_slice g)
    → c.loop-block.block-iterator ≡ c.as_slice.result.now ∷ c.next.new.self
next g c = c.in-Some.ensures.steps ∙ ap (λ block. block ∷ c.next.new.self) (sym c.as_slice.ensures.items)

pub f-requires : goal.f-requires
f-requires g c = BlocksLeft-callable c.as_slice.result (next g c) c.as_slice.ensures.len c.loop-block.invariant.2

pub loop-block-preserved : goal.loop-block-preserved
loop-block-preserved g c =
    let here = c.in-Some.ensures.steps ∙ ap (λ block. block ∷ c.next.new.self) (sym c.as_slice.ensures.items) in (
      search rules,
      search rules,
      BlocksLeft-more c.as_slice.result c.f.new.self here c.f.ensures c.loop-block.invariant.2,
    )

pub returns-clause-blocks : goal.returns-clause-blocks
returns-clause-blocks g c = BlocksLeft-end c.in-None.ensures.steps.0 c.loop-block.invariant.2
