use Rattle.ga_core.proofs.SlotLemmas.{behind-kept, behind-long, behind-written, refill-long}
use Rattle.ga_core.proofs.builder.ArrayBuilder.extend_from_clones.Goals as goal
use Rattle.ga_views.specs.Parts.{part_set}
use Rattle.std.proofs.Common.{◌∙◌, length}
use Rattle.std.proofs.lemmas.Result.{err_from_is_err_and}

pub returns-clause-ok : goal.returns-clause-ok
returns-clause-ok g c =
    let slots = g.N.ArrayType.Store.items c.self.inside.store in
    let clones = c.write_clones_or_defaults.new.slots in
    let part = part_set c.self.inside.position (length c.args.items.now) slots clones in
    let long = behind-long _ slots c.self.invariant.0 c.self.invariant.1 c.self.view_is c.requires.room
    c.part_mut.ensures.items in
    let grown = behind-written _ slots c.self.invariant.0 c.self.invariant.1 c.self.view_is c.requires.room clones _
    (g.N.ArrayType.Store.store_with c.self.inside.store part).1 (c.write_clones_or_defaults.auto.slots ∙ long) in
    (clones, grown, c.in_ok-write_clones_or_defaults.ensures.items)

pub returns-in_err-write_clones_or_defaults-clause-err : goal.returns-in_err-write_clones_or_defaults-clause-err
returns-in_err-write_clones_or_defaults-clause-err g c =
    let slots = g.N.ArrayType.Store.items c.self.inside.store in
    let part = part_set c.self.inside.position (length c.args.items.now) slots c.write_clones_or_defaults.new.slots in
    let failed = err_from_is_err_and c.from_residual.result c.from_residual.ensures.1 in
    rw failed.1 (behind-kept _ slots c.self.invariant.0 c.self.invariant.1 c.self.view_is c.requires.room _ _
    (g.N.ArrayType.Store.store_with c.self.inside.store part).1)

pub invariant_of-self : goal.invariant_of-self
invariant_of-self g c =
    let slots = g.N.ArrayType.Store.items c.self.inside.store in
    let part = part_set c.self.inside.position (length c.args.items.now) slots c.write_clones_or_defaults.new.slots in
    let long = refill-long slots part _ (g.N.ArrayType.Store.store_with c.self.inside.store part).1 in
    (c.self.invariant.0, long ∙ c.self.invariant.1, c.self.invariant.2)
