use Rattle.ga_boxed.proofs.boxed_array.BoxedArray.try_boxed_from_fallible_iter_ref.Given as given
use Rattle.ga_boxed.proofs.boxed_array.BoxedArray.try_boxed_from_fallible_iter_ref.Goals as goal
use Rattle.ga_core.proofs.FillLemmas.{FillFalliblyRuns-from_fill}
use Rattle.ga_core.specs.Fill.{FillFalliblyRuns, FillsFallibly}
use Rattle.ga_core.specs.declared.LengthError.{LengthError}
use Rattle.std.proofs.Common.{◌∙◌, ◌≡◌, ◌<◌, Err, List, ap, arith, length, length-append, None, Ok, Result, Some, map, refl}
use Rattle.std.proofs.iter.Next.{Yields-more}
use Rattle.std.proofs.lemmas.List.{map-append}

pub returns-in_default : goal.returns-in_default
returns-in_default g c = record {
  fill = tt;
  runs = tt;
  can_on = λ error is. cc is;
  err = λ refused is. refl;
  empty = λ none. cc (c.in_default.ensures.empty (c.USIZE.ensures ∙ none));
}

pub loop-items-preserved : goal.loop-items-preserved
loop-items-preserved g c =
    let at = c.loop-items in
    let came = rw c.in-Some-Ok.field-0-is at c.in-Some-Ok.ensures.steps in
    record {
      can = c.in-Some-Ok.ensures.goes.keeps;
      taken = rw (c.put.ensures.items, map-append)
          (Yields-more g.I.Iterator.next_gives c.args.items.now (map Ok at.block.items) at.items
          (Ok c.in-Some-Ok.item) _ at.invariant.taken came);
      room = omega (arith, simp length-append at (ap length c.put.ensures.items));
    }

-- what a fill says of its calls
told : (g : given.Over) (items : g.row.I.Denot) (built : Result (Result (List g.row.T.Denot) g.row.E.Denot) LengthError)
    (left : g.row.I.Denot)
    → let next = g.I.Iterator.next_gives in let n = g.N.Unsigned.USIZE in FillsFallibly next items n built left
    → FillsFallibly next items n built left × FillFalliblyRuns next items n built
told g items built left fill =
    (fill, FillFalliblyRuns-from_fill g.I.Iterator.next_gives items g.N.Unsigned.USIZE built left fill)

pub returns-in-Some-Err : goal.returns-in-Some-Err
returns-in-Some-Err g c =
    let at = c.loop-items in
    let error = c.in-Some-Err.error in
    let came = rw c.in-Some-Err.field-0-is at c.in-Some-Err.ensures.steps in
    let few : length at.block.items < g.N.Unsigned.USIZE = omega arith in
    let fill = told g c.args.items.now (Ok (Err error)) c.next.new.self
    (at.block.items, Some (Err error), (at.items, at.invariant.taken, came), (refl, few)) in
    let can = c.in-Some-Err.ensures.goes.keeps in
    record { fill = fill.0; runs = fill.1; can_on = λ error is. can; err = λ refused is. cc is; empty = λ none. tt }

pub returns-in-None : goal.returns-in-None
returns-in-None g c =
    let at = c.loop-items in
    let few : length at.block.items < g.N.Unsigned.USIZE = omega arith in
    let fill = told g c.args.items.now (Err (record {})) c.next.new.self
    (at.block.items, None, (at.items, at.invariant.taken, c.in-None.ensures.steps), few) in
    record { fill = fill.0; runs = fill.1; can_on = λ error is. cc is; err = λ refused is. cc is; empty = λ none. tt }

pub returns-in-None-next : goal.returns-in-None-next
returns-in-None-next g c =
    let at = c.loop-items in
    let all : length at.block.items ≡ g.N.Unsigned.USIZE = omega arith in
    let fill = told g c.args.items.now (Ok (Ok at.block.items)) c.next-2.new.self
    (at.block.items, None, (at.items, at.invariant.taken, c.in-None-next.ensures.steps), (refl, all, refl)) in
    rw c.from_block.ensures record { fill = fill.0; runs = fill.1; can_on = λ error is. cc is; err = λ refused is. cc is; empty = λ none. tt }

pub returns-in-Some : goal.returns-in-Some
returns-in-Some g c =
    let at = c.loop-items in
    let all : length at.block.items ≡ g.N.Unsigned.USIZE = omega arith in
    let fill = told g c.args.items.now (Err (record {})) c.next-2.new.self
    (at.block.items, Some c.in-Some._surplus, (at.items, at.invariant.taken, c.in-Some.ensures.steps), all) in
    record { fill = fill.0; runs = fill.1; can_on = λ error is. cc is; err = λ refused is. cc is; empty = λ none. tt }
