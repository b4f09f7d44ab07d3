use Rattle.ga_records.proofs.RecordLemmas.{has-none, is-last, none-has, walk-found, walk-passed}
use Rattle.ga_records.proofs.record_block.RecordBlock.last_with.Goals as goal
use Rattle.ga_records.specs.Block.{bytes_of}
use Rattle.ga_records.specs.Records.{has, last_record_with}
use Rattle.generic_array.specs.Rows.{rows}
use Rattle.generic_array.specs.Views.{items_of_view}
use Rattle.std.proofs.Common.{rules, ◌≡◌, ◌∙◌, ap, refl, sym, true}

pub returns-then-contains-clause-index : goal.returns-then-contains-clause-index
returns-then-contains-clause-index g c =
    let all = rows g.N.Unsigned.USIZE (bytes_of c.args.self.now) in
    let row = items_of_view c.in-Some.record in
    let found : has c.args.byte row ≡ true = search rules in
    sym (walk-found c.args.byte all c.loop-record.left c.next_back.new.self row c.loop-record.invariant
    c.in-Some.ensures.steps c.len.result c.len.ensures found)

pub returns-then-contains-clause-some : goal.returns-then-contains-clause-some
returns-then-contains-clause-some g c =
    let all = rows g.N.Unsigned.USIZE (bytes_of c.args.self.now) in
    is-last c.args.byte all c.len.result (sym (returns-then-contains-clause-index g c))

pub returns-then-contains-clause-none : goal.returns-then-contains-clause-none
returns-then-contains-clause-none g c =
    let all = rows g.N.Unsigned.USIZE (bytes_of c.args.self.now) in
    let index = returns-then-contains-clause-index g c in
    (λ some. cc some, λ none. let no_index = has-none c.args.byte all none in cc (index, no_index))

pub loop-record-preserved : goal.loop-record-preserved
loop-record-preserved g c =
    let all = rows g.N.Unsigned.USIZE (bytes_of c.args.self.now) in
    walk-passed c.args.byte all c.loop-record.left c.next_back.new.self (items_of_view c.in-Some.record)
    c.loop-record.invariant c.in-Some.ensures.steps (search rules)

pub returns-clause-none : goal.returns-clause-none
returns-clause-none g c =
    let all = rows g.N.Unsigned.USIZE (bytes_of c.args.self.now) in (
      λ _. none-has c.args.byte all (c.loop-record.invariant
          ∙ ap (last_record_with c.args.byte) c.in_default.ensures.steps.0),
      λ none. refl,
    )
