use Rattle.ga_ciphers.proofs.xtea.cycles_back.Goals as goal
use Rattle.ga_ciphers.specs.Xtea.{cycle_back, cycles_back}
use Rattle.std.proofs.Common.{◌≡◌, ℕ, suc, ◌+◌, ◌-◌, ◌<◌, List, ap, arith, refl, sym, ◌∙◌}

pub cycles-init : goal.cycles-init
cycles-init c = refl

-- one more cycle
one_more : (key : List ℕ) (undone : ℕ) (halves : ℕ × ℕ) → undone < 32
    → cycles_back key (32 - undone) halves
    ≡ cycles_back key (32 - (undone + 1)) (cycle_back key (31 - undone) halves)
unfolding cycles_back
one_more key undone halves below =
    let left : 32 - undone ≡ suc (31 - undone) = omega arith in
    let same : 31 - undone ≡ 32 - (undone + 1) = omega arith in
    rw (left, same) refl

pub cycles-preserved : goal.cycles-preserved
cycles-preserved c =
    ap (cycles_back c.args.key.now (32 - (c.cycles.undone + 1))) c.cycle_back-halves.ensures
    ∙ (sym (one_more c.args.key.now c.cycles.undone c.cycles.halves c.cycles-test.true) ∙ c.cycles.invariant)

pub returns : goal.returns
unfolding cycles_back
returns c = let done : c.cycles.undone ≡ 32 = omega arith in rw done at c.cycles.invariant
