use Rattle.ga_views.proofs.ActsLemmas.{fold_at_entries}
use Rattle.ga_views.proofs.CallLemmas.{folded-callable, folded-more, folded-none, folded-rest}
use Rattle.ga_views.proofs.array_ref.GenericArrayRef.fold_by.Goals as goal
use Rattle.std.proofs.Common.{[], sym}
use Rattle.std.proofs.lemmas.List.{append-nil}

pub loop-left-init : goal.loop-left-init
loop-left-init g c = rw (← c.as_slice-left.ensures.items) (folded-none _ c.args.f.now c.args.init _)

pub fold_items-answer-requires : goal.fold_items-answer-requires
fold_items-answer-requires g c =
    folded-callable c.loop-left.invariant _ c.requires.callable _ _ c.split_at.ensures.by_index.0

pub loop-left-preserved : goal.loop-left-preserved
loop-left-preserved g c =
    folded-more c.loop-left.invariant _ _ _ _ c.split_at.ensures.by_index.0 c.fold_items-answer.ensures

pub fold_items-requires : goal.fold_items-requires
fold_items-requires g c =
    folded-callable c.loop-left.invariant _ c.requires.callable _ [] (sym (append-nil _))

pub returns : goal.returns
returns g c =
    let run = folded-rest c.loop-left.invariant _ _ c.fold_items.ensures in
    record { run = run; acts = λ h acts. fold_at_entries (λ item. item.now) _ _ h acts _ _ _ _ run }
