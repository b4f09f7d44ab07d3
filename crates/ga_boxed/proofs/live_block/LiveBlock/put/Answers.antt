use Rattle.ga_boxed.proofs.live_block.LiveBlock.put.Goals as goal
use Rattle.std.proofs.Common.{◌+◌, ◌<◌, ◌∙◌, ap, length, subst, sym}

pub put-requires : goal.put-requires
put-requires g c =
    let held = c.self.invariant in
    record {
      at = sym held.at;
      index = sym (ap (λ passed. passed + length c.self.inside.cells.items) held.passed ∙ held.items);
      room = subst (λ room. 0 < room) (sym (ap (λ b. b.room) c.self.view_is)) c.requires.room;
    }
