use Rattle.ga_views.proofs.hex_text.write_hex.Given as goal
use Rattle.ga_views.specs.Digits.{digits_left}
use Rattle.ga_views.specs.HexText.{hex_text}
use Rattle.std.proofs.Common.{◌≡◌, ℕ, ◌++◌, List, length}
use Rattle.std.specs.Io.KnownBytes.{Appends}

-- the text so far and the digits that are left are the whole text
abbrev pub invariant-loop-text : goal.invariant-loop-text
invariant-loop-text g l = (done : List ℕ) × Appends (g.W.Write.contents l.fn.w) (g.W.Write.contents l.w) done
    × (hex_text l.fn.upper l.fn.limit l.fn.bytes ≡ done ++ digits_left l.digits)

abbrev pub decreases-loop-text : goal.decreases-loop-text
decreases-loop-text g l = length (digits_left l.digits)
