use Rattle.generic_array.proofs.ShapeLemmas.{rows-of_joined}
use Rattle.generic_array.proofs.sequence.shapes.inline.GenericArrayFlatten.flatten.Goals as goal
use Rattle.generic_array.specs.Rows.{rows}
use Rattle.std.proofs.Common.{◌≡◌, ◌*◌, ◌∷◌, [], ◌∙◌, ap, append-nil, append_assoc, arith, length, length-append, map, sym}
use Rattle.std.proofs.Math.Nat.{suc-mul}
use Rattle.std.proofs.lemmas.List.Elements.{All-cons, All-nil}
use Rattle.std.proofs.lemmas.List.Folds.{flat_map-map}
use Rattle.std.specs.List.{flat_map}

pub loop-row-preserved : goal.loop-row-preserved
loop-row-preserved g c =
    let w = g.I.Row.WIDTH in
    let row = c.in-Some.row in
    let left = c.next.new.self in
    let first : c.loop-row.row-iterator ≡ row ∷ left = c.in-Some.ensures.steps in
    let moved = c.move_into.ensures.moved in
    let width = c.move_into.ensures.width in
    let rows_left = ap (λ these. length these * w) first ∙ suc-mul (length left) w in
    let longer = length-append c.loop-row.joined (g.I.AsSlice.items row) in
    record {
      can = tt;
      ends = tt;
      same = rw (moved, append_assoc) (rw first at c.loop-row.invariant.same);
      wide = λ others. c.loop-row.invariant.wide (rw first (All-cons (λ r. length r ≡ w) (g.I.AsSlice.items row)
          (map g.I.AsSlice.items left) width others));
      long = omega (arith, rows_left, c.loop-row.invariant.long, ap length moved, width, longer);
    }

pub returns-clause-joined : goal.returns-clause-joined
returns-clause-joined g c =
    let ended : c.loop-row.row-iterator ≡ [] = c.in-None.ensures.steps.0 in
    c.finish.ensures ∙ (sym (append-nil c.loop-row.joined) ∙ (rw ended at c.loop-row.invariant.same))

pub returns-clause-cut : goal.returns-clause-cut
returns-clause-cut g c = λ some.
    let w = g.I.Row.WIDTH in
    let ended : c.loop-row.row-iterator ≡ [] = c.in-None.ensures.steps.0 in
    ap (rows w) (returns-clause-joined g c) ∙ rows-of_joined w some (map g.I.AsSlice.items c.args.self)
    (c.loop-row.invariant.wide (rw ended (All-nil (λ r. length r ≡ w))))

pub returns-clause-mapped : goal.returns-clause-mapped
returns-clause-mapped g c = λ f xs mapped. returns-clause-joined g c
    ∙ (ap (flat_map (λ row. row)) mapped ∙ flat_map-map (λ row. row) f xs)
