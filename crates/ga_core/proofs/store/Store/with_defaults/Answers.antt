use Rattle.ga_core.proofs.store.Store.with_defaults.Goals as goal
use Rattle.std.proofs.Common.{length-append, ◌∷◌, [], ◌≡◌, ◌≤◌, ℕ, arith, refl}
use Rattle.std.proofs.lemmas.List.Elements.{All-push}

pub loop-slot-preserved : goal.loop-slot-preserved
loop-slot-preserved g c =
    let before = g.Self.Store.items c.loop-slot.store in
    record {
      items = rw c.push.ensures
          (All-push g.T.Default.is_default before c.default.result c.loop-slot.invariant.items c.default.ensures);
      long = rw (c.push.ensures, length-append before (c.default.result ∷ []), c.loop-slot.invariant.long) refl;
    }

-- what is as long as the place where a loop ended is as long as its end
same-end : {n width other : ℕ} {m : ℕ} → width ≤ n → n ≤ width → m ≡ n → width ≡ other → m ≡ other
same-end least most here same = omega arith

pub returns : goal.returns
returns g c = record {
  items = c.loop-slot.invariant.items;
  len = same-end c.loop-slot-test.false c.loop-slot.auto._slot-end c.loop-slot.invariant.long c.requires.capacity;
}
