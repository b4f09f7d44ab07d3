use Rattle.ga_core.proofs.EntryActs.{answers_at_pairs}
use Rattle.generic_array.proofs.functional.inverted.inverted_zip_by.Goals as goal
use Rattle.generic_array.specs.EntryLaws.{left_given}

pub zip_entries-requires-clause-callable : goal.zip_entries-requires-clause-callable
zip_entries-requires-clause-callable g c =
    let given = c.into_iter.ensures.into_iter_gives in
    let gives = left_given c.into_iter.result c.args.lhs given.0 in
    let also = c.entries_of.ensures in
    let others = g.S.AsSlice.items c.args.s in
    ((λ x. x), c.args.lhs, (tt, tt, gives), given.3, (_, others, also.gives, also.long, c.requires.callable))

pub returns-clause-run : goal.returns-clause-run
returns-clause-run g c =
    let gives = left_given c.into_iter.result c.args.lhs c.into_iter.ensures.into_iter_gives.0 in
    let len = c.into_iter.ensures.into_iter_gives.3 in
    (rw c.always.ensures at c.zip_entries.ensures.run) (λ item. item) c.args.lhs (tt, tt, gives) len
    g.S.GenericSequence.entry (g.S.AsSlice.items c.args.s) c.entries_of.ensures.gives c.entries_of.ensures.long

pub returns-clause-acts : goal.returns-clause-acts
returns-clause-acts g c h acts = answers_at_pairs _ _ _ _ h acts _ _ _ (returns-clause-run g c)
