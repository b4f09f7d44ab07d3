use Rattle.generic_array.proofs.ShapeLemmas.{rows-begun}
use Rattle.generic_array.proofs.sequence.flat_iter.FlatIterIterator.next.Goals as goal
use Rattle.std.proofs.lemmas.List.{nil_from_length}
use Rattle.std.proofs.Common.{◌≡◌, [], ◌∙◌, ◌++◌, ap, arith, length, sym}
use Rattle.std.specs.List.{flat_map}
use Rattle.std.specs.Slice.Iter.{iter_rest}

pub returns-in-Some : goal.returns-in-Some
returns-in-Some g c =
    let steps = sym c.loop-item.invariant
    ∙ ap (λ l. l ++ flat_map (λ row. row) (iter_rest c.loop-item.self-inside.rows)) c.in-Some.ensures.steps in
    record {
      steps = steps;
      goes = record { on = λ _. (tt, tt, omega (arith, ap length steps)); keeps = tt; rests = λ _. tt };
    }

pub returns-in-None : goal.returns-in-None
returns-in-None g c =
    let rows = c.in-None.ensures.steps in
    let row_left = iter_rest c.loop-item.self-inside.row in
    let rows_left = iter_rest c.loop-item.self-inside.rows in
    let none : row_left ++ flat_map (λ r. r) rows_left ≡ [] =
    rw (nil_from_length row_left c.in_default.ensures.steps.0, nil_from_length rows_left rows.0) in
    record {
      steps = (sym c.loop-item.invariant ∙ none, rw (c.in_default.ensures.steps.1, rows.1) none);
      goes = record { on = λ _. tt; keeps = tt; rests = λ _. tt };
    }

pub loop-item-preserved : goal.loop-item-preserved
loop-item-preserved g c =
    rows-begun (iter_rest c.loop-item.self-inside.row) c.in-Some-next.row.now (iter_rest c.iter-self-inside.result)
    (iter_rest c.loop-item.self-inside.rows)
    (iter_rest c.next-in-loop-item.new.self) c.args.self.now c.in_default.ensures.steps.0 c.in-Some-next.ensures.steps
    c.iter-self-inside.ensures.0 c.loop-item.invariant
