use Rattle.ga_views.proofs.HexLemmas.{piece-left, piece-next, piece-some}
use Rattle.ga_views.proofs.hex_text.Digits.next_text.Goals as goal
use Rattle.std.proofs.Common.{◌<◌, arith}

pub invariant_of-self : goal.invariant_of-self
invariant_of-self c =
    let parts = c.split_at.ensures.by_index.0 in record {
      enough = piece-left c.args.self.now.upper _ _ _ _ _ parts c.put_piece-text.ensures c.args.self.now.enough;
    }

-- the text has digits, and with those of the bytes behind its piece it is all that were left
pub returns-clause-some : goal.returns-clause-some
returns-clause-some c =
    let upper = c.args.self.now.upper in
    let some : 0 < c.args.self.now.count = omega (arith, c.if-self-eq0.false) in
    let parts = c.split_at.ensures.by_index.0 in
    let is = c.put_piece-text.ensures in (
      piece-some upper _ _ _ _ _ parts is _ _ some c.args.self.now.enough c.requires c.min.ensures
          c.split_at.ensures.front_len,
      piece-next upper _ _ _ _ _ parts is,
    )
