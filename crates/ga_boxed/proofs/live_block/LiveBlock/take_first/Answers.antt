use Rattle.ga_boxed.proofs.live_block.LiveBlock.take_first.Goals as goal
use Rattle.std.proofs.Common.{◌∙◌, ap, sym}

pub take_first-requires : goal.take_first-requires
take_first-requires g c = record {
  at = sym c.self.invariant.at;
  index = sym c.self.invariant.passed;
  enough = λ none. c.requires.enough (sym (ap (λ b. b.items) c.self.view_is) ∙ none);
}
