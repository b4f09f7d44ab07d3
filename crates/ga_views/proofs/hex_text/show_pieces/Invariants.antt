use Rattle.ga_views.proofs.hex_text.show_pieces.Given as goal
use Rattle.ga_views.specs.Digits.{digits_left}
use Rattle.ga_views.specs.HexText.{hex_text}
use Rattle.std.proofs.Common.{◌≡◌, ℕ, ◌++◌, List, length}
use Rattle.std.specs.Fmt.{HasWrittenStyled, IsFlush}

-- the text so far and the digits that are left are the whole text
abbrev pub invariant-loop-shown : goal.invariant-loop-shown
invariant-loop-shown g l = (done : List ℕ)
    × (IsFlush l.fn.f → HasWrittenStyled g.W.Write.write_str_gives l.fn.f done l.f)
    × (hex_text l.fn.upper l.fn.limit l.fn.bytes ≡ done ++ digits_left l.digits)

abbrev pub decreases-loop-shown : goal.decreases-loop-shown
decreases-loop-shown g l = length (digits_left l.digits)
