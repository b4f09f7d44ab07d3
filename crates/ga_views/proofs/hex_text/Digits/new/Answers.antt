use Rattle.ga_views.proofs.HexLemmas.{hex_text-counted}
use Rattle.ga_views.proofs.hex_text.Digits.new.Goals as goal
use Rattle.std.proofs.Common.{sym}

-- the digits are as many as the limit lets through
pub returns : goal.returns
returns c =
    rw (c.min.ensures, c.unwrap_or.ensures) (sym (hex_text-counted c.args.upper c.args.limit c.args.bytes.now))
