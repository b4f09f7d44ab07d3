use Rattle.ga_rows.proofs.TextLemmas.{lines-all, lines-more, lines-none, none-has_room}
use Rattle.ga_rows.proofs.output.put_from_first.Goals as goal
use Rattle.ga_rows.proofs.output.put_from_first.Goals.{else-not-has_room, then-not-has_room+in_ok-hand_over}
use Rattle.generic_array.specs.Views.{items_of_view}
use Rattle.std.proofs.Common.{◌∙◌, ap, arith, length, refl, rules}
use Rattle.std.proofs.KnownBytes.{Keeps-refl, append_known-grown}

pub loop-row-init : goal.loop-row-init
loop-row-init g c =
    let same = c.into_iter-row-iterator.ensures.into_iter_gives ∙ c.iter-row-items.ensures.rows in
    record { text = lines-none c.args.mode _ _ _ same; empty = λ none. (same ∙ none, refl) }

pub loop-row-preserved : goal.loop-row-preserved
loop-row-preserved g c = record {
  text = lines-more c.args.mode _ _ c.next.new.self (items_of_view c.in-Some.row) _ _ _ c.loop-row.invariant.text
      c.in-Some.ensures.steps (elim c.if-not-has_room.branch [
        | then-not-has_room+in_ok-hand_over w ↦ search rules
        | else-not-has_room w ↦ append_known-grown _ _ _ _ _ (search (rules, Keeps-refl)) c.in_ok-put_row.ensures
      ]);
  empty = λ none.
      absurd (omega (arith, ap length (c.loop-row.invariant.empty none).0, ap length c.in-Some.ensures.steps));
}

-- a line has room where the piece was just written, and where it was seen to have
pub put_row-requires-clause-room : goal.put_row-requires-clause-room
put_row-requires-clause-room g c = elim c.if-not-has_room.branch [
  | then-not-has_room+in_ok-hand_over w ↦ none-has_room _ (w.piece-is ∙ w.in_ok-hand_over.ensures.cleared)
  | else-not-has_room w ↦ search rules
]

pub returns-in_err-put_row-clause-empty : goal.returns-in_err-put_row-clause-empty
returns-in_err-put_row-clause-empty g c = λ none.
    absurd (omega (arith, ap length (c.loop-row.invariant.empty none).0, ap length c.in-Some.ensures.steps))

pub returns-clause-text : goal.returns-clause-text
returns-clause-text g c = lines-all c.args.mode _ _ _ _ c.loop-row.invariant.text c.in-None.ensures.steps.0
