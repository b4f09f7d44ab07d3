use Rattle.ga_boxed.proofs.live_block.LiveBlock.all_mut.Goals as goal
use Rattle.ga_boxed.specs.Live.{live}
use Rattle.std.proofs.Common.{◌∙◌, ap, length, refl, sym}
use Rattle.std.specs.List.{refill}

pub slice_mut-requires : goal.slice_mut-requires
slice_mut-requires g c = record {
  at = sym c.self.invariant.at;
  index = sym c.self.invariant.passed;
  len = c.requires.len ∙ sym (ap (λ b. length b.items) c.self.view_is);
}

pub returns : goal.returns
returns g c = (
  (refl, λ w. ap (λ b. live (refill (length b.items) b.items w) b.room) c.self.view_is),
  record { writes_back = tt; items = c.slice_mut.ensures.items ∙ ap (λ b. b.items) c.self.view_is },
)
