use Rattle.ga_rows.proofs.TextLemmas.{lines-all, lines-more_back, lines-none, no-last, none-has_room}
use Rattle.ga_rows.proofs.output.put_from_last.Goals as goal
use Rattle.ga_rows.proofs.output.put_from_last.Goals.{else-not-has_room, then-not-has_room+in_ok-hand_over}
use Rattle.ga_rows.specs.declared.arguments.Mode.TheVariants.{Last}
use Rattle.generic_array.specs.Views.{items_of_view}
use Rattle.std.proofs.Common.{◌∙◌, ap, refl, reverse, rules}
use Rattle.std.proofs.KnownBytes.{Keeps-refl, append_known-grown}
use Rattle.std.specs.Iterator.Adapters.{rev_source}

pub loop-row-init : goal.loop-row-init
loop-row-init g c =
    let same = ap rev_source c.into_iter-row-iterator.ensures.into_iter_gives
    ∙ (c.rev-row-items.ensures.source ∙ c.iter.ensures.rows) in
    record { text = lines-none Last _ _ _ (ap reverse same); empty = λ none. (same ∙ none, refl) }

pub loop-row-preserved : goal.loop-row-preserved
loop-row-preserved g c =
    let left = rev_source c.loop-row.row-iterator in
    let after = rev_source c.next.new.self in
    let row = items_of_view c.in-Some.row in
    record {
      text = lines-more_back Last _ left after row _ _ _ c.loop-row.invariant.text c.in-Some.ensures.steps
          (elim c.if-not-has_room.branch [
            | then-not-has_room+in_ok-hand_over w ↦ search rules
            | else-not-has_room w ↦ append_known-grown _ _ _ _ _ (search (rules, Keeps-refl)) c.in_ok-put_row.ensures
          ]);
      empty = λ none. absurd (no-last left after row (c.loop-row.invariant.empty none).0 c.in-Some.ensures.steps);
    }

pub put_row-requires-clause-room : goal.put_row-requires-clause-room
put_row-requires-clause-room g c = elim c.if-not-has_room.branch [
  | then-not-has_room+in_ok-hand_over w ↦ none-has_room _ (w.piece-is ∙ w.in_ok-hand_over.ensures.cleared)
  | else-not-has_room w ↦ search rules
]

pub returns-clause-text : goal.returns-clause-text
returns-clause-text g c =
    lines-all Last _ _ _ _ c.loop-row.invariant.text (ap reverse c.in-None.ensures.steps.0)

pub returns-in_err-put_row-clause-empty : goal.returns-in_err-put_row-clause-empty
returns-in_err-put_row-clause-empty g c = λ none. absurd (no-last (rev_source c.loop-row.row-iterator)
    (rev_source c.next.new.self) (items_of_view c.in-Some.row) (c.loop-row.invariant.empty none).0 c.in-Some.ensures.steps)
