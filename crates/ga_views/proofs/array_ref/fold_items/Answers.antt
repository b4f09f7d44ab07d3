use Rattle.ga_views.proofs.CallLemmas.{may_fold-at}
use Rattle.ga_views.proofs.CutLemmas.{cut-at, take-one}
use Rattle.ga_views.proofs.array_ref.fold_items.Goals as goal
use Rattle.std.proofs.Common.{refl, take}
use Rattle.std.proofs.lemmas.Fn.{FoldsTo-push}
use Rattle.std.proofs.lemmas.List.{take_all}

pub f-answer-requires : goal.f-answer-requires
f-answer-requires g c =
    let at = c.loop-item in
    let items = c.args.items.now in
    let here = cut-at at.item-index items c.item-item.result c.loop-item-test.true c.item-item.is in
    may_fold-at (λ item. item.now) _ _ _ _ _ c.requires (take at.item-index items) c.item-item.result _
    at.f at.answer here at.invariant _ refl

pub loop-item-preserved : goal.loop-item-preserved
loop-item-preserved g c =
    let at = c.loop-item in
    let items = c.args.items.now in
    rw (take-one at.item-index items c.item-item.result c.loop-item-test.true c.item-item.is)
    (FoldsTo-push _ (c.args.f.now, c.args.init) (take at.item-index items) (at.f, at.answer) c.item-item.result
    (c.f-answer.new.self, c.f-answer.result) at.invariant (_, refl, c.f-answer.ensures))

pub returns : goal.returns
returns g c = rw (take_all c.loop-item.item-index c.args.items.now c.loop-item-test.false) at c.loop-item.invariant
