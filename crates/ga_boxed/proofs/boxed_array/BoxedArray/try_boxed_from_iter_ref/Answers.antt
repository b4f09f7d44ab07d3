use Rattle.ga_boxed.proofs.BlockLemmas.{taken-next}
use Rattle.ga_boxed.proofs.boxed_array.BoxedArray.try_boxed_from_iter_ref.Given as given
use Rattle.ga_boxed.proofs.boxed_array.BoxedArray.try_boxed_from_iter_ref.Goals as goal
use Rattle.ga_core.proofs.FillLemmas.{Asks-from_fill, FillRuns-from_fill}
use Rattle.ga_core.specs.Fill.{Asks, FillRuns, Fills}
use Rattle.ga_core.specs.declared.LengthError.{LengthError}
use Rattle.std.proofs.Common.{◌≡◌, ◌<◌, ◌+◌, Err, arith, length, List, None, Ok, Result, Some, refl}

pub loop-less-preserved : goal.loop-less-preserved
loop-less-preserved g c = record {
  so_far = taken-next c.in-Some.item c.next.new.self c.loop-less.invariant.so_far c.put.ensures.items c.put.ensures.room
      c.in-Some.ensures.steps c.in-Some.ensures.goes.keeps;
  within = omega (arith, c.loop-less.invariant.within, c.room-in-loop-less.ensures, c.loop-less-test.true, c.put.ensures.room);
}

pub loop-items-preserved : goal.loop-items-preserved
loop-items-preserved g c =
    taken-next c.in-Some-next.item c.next-in-loop-items.new.self c.loop-items.invariant c.put-in-Some-next.ensures.items
    c.put-in-Some-next.ensures.room c.in-Some-next.ensures.steps c.in-Some-next.ensures.goes.keeps

-- what a fill says of its calls
told : (g : given.Over) (items : g.row.I.Denot) (built : Result (List g.row.T.Denot) LengthError) (left : g.row.I.Denot)
    → let next = g.I.Iterator.next_gives in let n = g.N.Unsigned.USIZE in Fills next items n built left
    → Fills next items n built left × FillRuns next items n built × Asks next items (n + 1) left
told g items built left fill =
    let next = g.I.Iterator.next_gives in
    let n = g.N.Unsigned.USIZE in
    (fill, FillRuns-from_fill next items n built left fill, Asks-from_fill next items n built left fill)

pub returns-in-None : goal.returns-in-None
returns-in-None g c =
    let at = c.loop-less in
    let few : length at.block.items < g.N.Unsigned.USIZE = omega arith in
    let fill = told g c.args.items.now (Err (record {})) c.next.new.self
    (at.block.items, None, (at.items, at.invariant.so_far.taken, c.in-None.ensures.steps), few) in
    record { fill = fill.0; runs = fill.1; asks = fill.2; err = tt; empty = λ none. refl }

pub returns-in-None-next : goal.returns-in-None-next
returns-in-None-next g c =
    let at = c.loop-items in
    let few : length at.block.items < g.N.Unsigned.USIZE = omega arith in
    let fill = told g c.args.items.now (Err (record {})) c.next-in-loop-items.new.self
    (at.block.items, None, (at.items, at.invariant.taken, c.in-None-next.ensures.steps), few) in
    record { fill = fill.0; runs = fill.1; asks = fill.2; err = tt; empty = λ none. refl }

pub returns-in-None-next-2 : goal.returns-in-None-next-2
returns-in-None-next-2 g c =
    let at = c.loop-items in
    let all : length at.block.items ≡ g.N.Unsigned.USIZE = omega arith in
    let fill = told g c.args.items.now (Ok at.block.items) c.next-2.new.self
    (at.block.items, None, (at.items, at.invariant.taken, c.in-None-next-2.ensures.steps), (refl, all, refl)) in
    rw c.from_block.ensures record { fill = fill.0; runs = fill.1; asks = fill.2; err = tt; empty = λ none. refl }

pub returns-in-Some-next-2 : goal.returns-in-Some-next-2
returns-in-Some-next-2 g c =
    let at = c.loop-items in
    let all : length at.block.items ≡ g.N.Unsigned.USIZE = omega arith in
    let fill = told g c.args.items.now (Err (record {})) c.next-2.new.self
    (at.block.items, Some c.in-Some-next-2._surplus, (at.items, at.invariant.taken, c.in-Some-next-2.ensures.steps), all) in
    record { fill = fill.0; runs = fill.1; asks = fill.2; err = tt; empty = λ none. refl }
