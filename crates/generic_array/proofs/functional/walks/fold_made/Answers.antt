use Rattle.ga_core.proofs.ActsLemmas.{answer_of_fold}
use Rattle.generic_array.proofs.FoldLemmas.{FoldRun-by_items}
use Rattle.generic_array.proofs.functional.walks.fold_made.Goals as goal

pub fold_entries-requires : goal.fold_entries-requires
fold_entries-requires g c =
    let items = g.M.Sequence.AsSlice.items c.args.made in
    let gives = g.met.M.GenericSequence.gives_items c.args.made c.into_iter.result c.into_iter.ensures.into_iter_gives
    in record { callable = ((λ item. item), items, gives, c.requires.callable) }

pub returns-clause-run : goal.returns-clause-run
returns-clause-run g c =
    let items = g.M.Sequence.AsSlice.items c.args.made in
    let gives = g.met.M.GenericSequence.gives_items c.args.made c.into_iter.result c.into_iter.ensures.into_iter_gives
    in
    FoldRun-by_items (goal.G-step g) _ _ items _ _ (c.fold_entries.ensures.run (λ item. item) items gives)

pub returns-clause-acts : goal.returns-clause-acts
returns-clause-acts g c h acts = answer_of_fold _ _ h acts _ _ _ _ (returns-clause-run g c)
