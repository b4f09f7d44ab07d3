use Rattle.ga_core.proofs.SlotLemmas.{refill-set}
use Rattle.ga_core.proofs.store.take_at.Goals as goal
use Rattle.std.proofs.Common.{◌≡◌, ◌%◌, ◌∙◌, ap, arith, refl, slice_set, mod-eq_of_lt}

pub returns-clause-left : goal.returns-clause-left
returns-clause-left g c =
    let items = g.S.Store.items c.args.store.now in
    let at = c.args.slot % 65536 in
    let here : at ≡ c.args.slot = mod-eq_of_lt (omega (arith, c.requires.fits, c.requires.in_bounds)) in
    let blank = c.take.new.dest in
    let written = refill-set items items _ at blank refl (g.S.Store.store_with c.args.store.now _).1 in
    (blank, written ∙ ap (λ k. slice_set items k blank) here)
