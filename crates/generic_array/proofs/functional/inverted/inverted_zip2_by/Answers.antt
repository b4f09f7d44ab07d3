use Rattle.ga_core.proofs.EntryActs.{answers_at_pairs}
use Rattle.generic_array.proofs.functional.inverted.inverted_zip2_by.Goals as goal
use Rattle.std.proofs.Common.{◌∙◌, sym}
use Rattle.std.proofs.lemmas.Result.{IfOk-weaker}

pub zip_entries-requires-clause-callable : goal.zip_entries-requires-clause-callable
zip_entries-requires-clause-callable g c =
    let same = sym g.met.Lhs.MappedGenericSequence.same_length in
    let left = c.entries_of.ensures in
    let right = c.entries_of-2.ensures in
    let also = right.long ∙ (sym c.requires.lengths ∙ same) in
    let items = g.Lhs.AsSlice.items c.args.lhs in
    let others = g.S.AsSlice.items c.args.s in
    (_, items, left.gives, left.long ∙ same, (_, others, right.gives, also, c.requires.callable))

pub returns : goal.returns
returns g c =
    let same = g.met.Lhs.MappedGenericSequence.same_length in
    let long = c.entries_of.ensures.long ∙ sym same in
    let also = c.entries_of-2.ensures.long ∙ (sym c.requires.lengths ∙ sym same) in
    let told = c.zip_entries.ensures in
    let run = IfOk-weaker c.zip_entries.result _ _ (λ made run. run _ (g.Lhs.AsSlice.items c.args.lhs)
    c.entries_of.ensures.gives long _ (g.S.AsSlice.items c.args.s) c.entries_of-2.ensures.gives also) told.run in
    record {
      len = IfOk-weaker c.zip_entries.result _ _ (λ made long. long ∙ same) told.len;
      run = run;
      acts = IfOk-weaker c.zip_entries.result _ _
          (λ made run h acts. answers_at_pairs _ _ _ _ h acts _ _ _ run) run;
      err = told.err;
      promised = told.promised;
    }
