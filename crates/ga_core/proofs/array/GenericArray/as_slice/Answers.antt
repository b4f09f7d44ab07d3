use Rattle.ga_core.proofs.array.GenericArray.as_slice.Goals as goal
use Rattle.std.proofs.Common.{◌≡◌, ◌∙◌, ap, length, sym, take}
use Rattle.std.proofs.Math.Seq.{take-length}

pub returns : goal.returns
returns g c =
    let items = c.as_slice.result.now in
    let count : length items ≡ g.N.Unsigned.USIZE = ap length c.as_slice.ensures ∙ c.self.invariant.0 in
    let shown : take c.USIZE.result items ≡ c.args.self.now =
    ap (λ k. take k items) (c.USIZE.ensures ∙ sym count) ∙ (take-length items ∙ (c.as_slice.ensures ∙ c.self.view_is))
    in
    record {
      items = shown;
      len = ap length (shown ∙ (sym c.self.view_is ∙ sym c.as_slice.ensures)) ∙ count;
      fits = c.self.invariant.1;
    }
