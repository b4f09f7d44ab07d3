use Rattle.ga_views.proofs.CutLemmas.{taken-some}
use Rattle.ga_views.proofs.HexLemmas.{IsUtf8-front, not_empty}
use Rattle.ga_views.proofs.hex_text.show_pieces.Goals as goal
use Rattle.std.proofs.Common.{◌++◌, [], rules}
use Rattle.std.proofs.Output.{has_written_styled_append, has_written_styled_nil}

-- at the start all of the text is to be written
pub loop-shown-init : goal.loop-shown-init
loop-shown-init g c = ([], λ flush. has_written_styled_nil _ _ flush, search rules)

-- digits are text
pub unreachable-requires : goal.unreachable-requires
unreachable-requires g c =
    c.in_default-from_utf8.ensures.cases.0 (IsUtf8-front c.loop-shown.digits.upper _ _ _ _ c.in-Some.ensures.some.1)

-- a formatter fails only where there are digits to write
pub returns-in_err-write_str-clause-empty : goal.returns-in_err-write_str-clause-empty
returns-in_err-write_str-clause-empty g c = λ none.
    let next = c.in-Some.ensures.some in
    absurd (not_empty _ _ _ _ _ c.loop-shown.invariant.2 next.1 next.0 none)

-- one text more is written
pub loop-shown-preserved : goal.loop-shown-preserved
loop-shown-preserved g c =
    let so_far = c.loop-shown.invariant in (
      so_far.0 ++ c.in-Some.shown.now,
      λ flush. has_written_styled_append _ _ so_far.0 _ _ _ (so_far.1 flush) (search rules),
      taken-some _ so_far.0 _ _ _ so_far.2 c.in-Some.ensures.some.1,
    )
