use Rattle.ga_core.proofs.CopyLemmas.{ExactlyEach-all}
use Rattle.ga_core.proofs.array.GenericArray.default.Goals as goal
use Rattle.std.proofs.Common.{◌∙◌, ap, length, rules, subst, sym, All}

pub returns : goal.returns
returns g c =
    let items = subst (All g.T.Default.is_default) (sym c.from_store.ensures) c.with_defaults.ensures.items in
    let len = ap length c.from_store.ensures ∙ (c.with_defaults.ensures.len ∙ search rules) in
    record {
      items = items;
      len = len;
      each = ExactlyEach-all g.T.Default.is_default g.N.Unsigned.USIZE c.from_store.result len items;
    }
