use Rattle.arrayvec.proofs.IterLemmas.{rest_runs, rest_runs_back}
use Rattle.ga_core.proofs.array.GenericArrayIntoIterator.into_iter.Goals as goal
use Rattle.std.proofs.Common.{◌≡◌, ◌∙◌, ap, length, sym, take}
use Rattle.std.proofs.Math.Seq.{take-length}

pub returns : goal.returns
returns g c =
    let items = g.N.ArrayType.Store.items c.self.inside.store in
    let long : c.USIZE.result ≡ length items = c.USIZE.ensures ∙ sym c.self.invariant.0 in
    record {
      into_iter_gives = (
        c.from_store.ensures ∙ (ap (λ k. take k items) long ∙ (take-length items ∙ c.self.view_is)),
        rest_runs,
        rest_runs_back,
        ap length (sym c.self.view_is) ∙ c.self.invariant.0,
        c.self.invariant.1,
      );
    }
