use Rattle.ga_core.proofs.IterLemmas.{rest_runs, rest_runs_back}
use Rattle.ga_boxed.proofs.boxed_array.BoxedArrayIntoIterator.into_iter.Goals as goal
use Rattle.std.proofs.Common.{◌∙◌, ap, length, sym}

pub returns : goal.returns
returns g c = record {
  into_iter_gives = (
    c.from_block.ensures
        ∙ (ap (λ block. block.items) c.with_len.ensures ∙ c.self.view_is),
    rest_runs,
    rest_runs_back,
    ap length (sym c.self.view_is) ∙ c.self.invariant,
  );
}
