use Rattle.ga_ciphers.proofs.XteaLemmas.{cycles-undone}
use Rattle.ga_ciphers.proofs.xtea.cycles.Goals as goal
use Rattle.ga_ciphers.specs.Xtea.{cycle, cycles, cycles_back}
use Rattle.std.proofs.Common.{◌≡◌, ℕ, add-one, ap, arith, refl, ◌∙◌}

pub cycles-init : goal.cycles-init
unfolding cycles
cycles-init c = refl

pub cycles-preserved : goal.cycles-preserved
unfolding cycles
cycles-preserved c =
    rw add-one (c.cycle-halves.ensures ∙ ap (cycle c.args.key.now c.cycles.number) c.cycles.invariant)

pub returns : goal.returns
returns c =
    let halves : ℕ × ℕ = (c.args.left, c.args.right) in
    let done : c.cycles.number ≡ 32 = omega arith in
    let is : c.cycles.halves ≡ cycles c.args.key.now 32 halves =
    c.cycles.invariant ∙ ap (λ n. cycles c.args.key.now n halves) done in
    record {
      halves = is;
      back = ap (cycles_back c.args.key.now 32) is
          ∙ cycles-undone c.args.key.now 32 halves (omega arith, omega arith);
    }
