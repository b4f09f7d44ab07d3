use Rattle.ga_boxed.proofs.BlockLemmas.{bounds_apart}
use Rattle.ga_boxed.proofs.live_block.LiveBlock.take_last.Goals as goal
use Rattle.std.proofs.Common.{◌∙◌, ap, arith, sym}

pub take_last-requires : goal.take_last-requires
take_last-requires g c =
    let apart = bounds_apart _ _ _ _ c.self.view_is c.self.invariant.items c.requires.enough in
    record {
      at = sym c.self.invariant.at;
      index = omega (arith, c.self.invariant.passed, c.self.invariant.items, apart);
      enough = λ none. c.requires.enough (sym (ap (λ b. b.items) c.self.view_is) ∙ none);
    }
