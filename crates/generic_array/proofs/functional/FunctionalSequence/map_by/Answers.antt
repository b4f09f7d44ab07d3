use Rattle.ga_core.proofs.EntryActs.{answers_at_entries}
use Rattle.generic_array.proofs.functional.FunctionalSequence.map_by.Goals as goal
use Rattle.std.proofs.Common.{◌∙◌, sym}
use Rattle.std.proofs.lemmas.Result.{IfOk-weaker}

pub map_entries-requires-clause-callable : goal.map_entries-requires-clause-callable
map_entries-requires-clause-callable g c =
    let long = c.entries_of.ensures.long ∙ sym g.met.Self.MappedGenericSequence.same_length in
    (_, g.Self.AsSlice.items c.args.self, c.entries_of.ensures.gives, long, c.requires.callable)

pub returns : goal.returns
returns g c =
    let same = g.met.Self.MappedGenericSequence.same_length in
    let told = c.map_entries.ensures in
    let run = IfOk-weaker c.map_entries.result _ _ (λ made run. run _ (g.Self.AsSlice.items c.args.self)
    c.entries_of.ensures.gives (c.entries_of.ensures.long ∙ sym same)) told.run in
    record {
      len = IfOk-weaker c.map_entries.result _ _ (λ made long. long ∙ same) told.len;
      run = run;
      acts = IfOk-weaker c.map_entries.result _ _
          (λ made run h acts. answers_at_entries _ _ _ h acts _ _ _ run) run;
      err = told.err;
      promised = told.promised;
    }
