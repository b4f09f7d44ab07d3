use Rattle.generic_array.proofs.ShapeLemmas.{joined-of_rows, map-row_at}
use Rattle.generic_array.proofs.sequence.shapes.inline.GenericArrayUnflattenGenericArrayGenericArray.unflatten.Goals as goal
use Rattle.generic_array.specs.Rows.{row_at}
use Rattle.std.proofs.Common.{◌≡◌, ◌+◌, ◌*◌, ◌∙◌, ap, arith, length, map, refl, take}
use Rattle.std.proofs.lemmas.List.{drop-drop}
use Rattle.std.proofs.lemmas.List.FromFn.{map-range_with_len_more}
use Rattle.std.specs.List.{flat_map, range_with_len}

-- one row more is the next of the items' rows
pub loop-row-preserved : goal.loop-row-preserved
loop-row-preserved g c =
    let w = g.W.Unsigned.USIZE in
    let items = c.args.self in
    let made = c.loop-row.invariant.made in
    let behind = c.loop-row.invariant.left in
    let place = length c.loop-row.rows in
    let row = c.next_array.result in
    let more = c.push.ensures.len in
    let row_of = row_at w items in
    let cut : row ≡ row_of place = c.next_array.ensures.first ∙ ap (take w) behind in
    let next : place * w + w ≡ (place + 1) * w = omega arith in
    let rows = map-range_with_len_more row_of 0 place place (omega arith) in
    record {
      count = omega (arith, more, c.loop-row.invariant.count);
      made = rw (more, c.push.ensures.items, rows, ← made, ← cut) refl;
      left = rw (more, c.next_array.ensures.left, behind, drop-drop w (place * w) items, next) refl;
    }

pub returns-clause-cut : goal.returns-clause-cut
returns-clause-cut g c =
    let items = c.args.self in
    let long = c.into_iter-items.ensures.into_iter_gives.3 ∙ c.requires.0 in
    let at = c.loop-row in
    let all : length at.rows ≡ g.R.Unsigned.USIZE =
    omega (arith, at.invariant.count, c.loop-row-test.false, at.auto._row-end, c.USIZE-row-end.ensures) in
    c.finish.ensures ∙ (at.invariant.made
    ∙ (ap (λ n. map (row_at g.W.Unsigned.USIZE items) (range_with_len 0 n)) all
    ∙ map-row_at g.W.Unsigned.USIZE g.R.Unsigned.USIZE items c.requires.1 long))

pub returns-clause-joined : goal.returns-clause-joined
returns-clause-joined g c =
    let long = c.into_iter-items.ensures.into_iter_gives.3 ∙ c.requires.0 in
    ap (flat_map (λ row. row)) (returns-clause-cut g c)
    ∙ joined-of_rows g.W.Unsigned.USIZE c.requires.1 g.R.Unsigned.USIZE c.args.self long
