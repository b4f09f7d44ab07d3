use Rattle.ga_core.proofs.LeftLemmas.{blanks-first, count, left-behind, left-item, left-kept}
use Rattle.ga_core.proofs.array_iter.GenericArrayIter.take_behind.Goals as goal
use Rattle.ga_views.specs.Parts.{part_set}
use Rattle.std.proofs.Common.{◌%◌, ◌+◌, ◌∙◌, ◌∷◌, ap, arith, sym}

pub part_mut-requires : goal.part_mut-requires
part_mut-requires g c = record {
  in_bounds = blanks-first _ _ c.self.invariant c.self.view_is _ (omega (arith, c.requires.enough)) (omega arith);
}

pub invariant_of-self : goal.invariant_of-self
invariant_of-self g c =
    let items = g.N.ArrayType.Store.items c.self.inside.store in
    let part = part_set (c.self.inside.front % 65536) (c.args.passed + 1) items c.take_last_slot.new.slots in
    let long = count items _ c.self.invariant c.self.view_is in
    left-kept items _ c.self.invariant c.self.view_is _ part (omega (arith, long, c.requires.enough)) c.self.invariant.1
    (g.N.ArrayType.Store.store_with c.self.inside.store part).1

pub returns : goal.returns
returns g c =
    let items = g.N.ArrayType.Store.items c.self.inside.store in
    let part = part_set (c.self.inside.front % 65536) (c.args.passed + 1) items c.take_last_slot.new.slots in
    left-item items _ c.self.invariant c.self.view_is c.args.passed c.take_last_slot.result _ c.requires.enough
    c.part_mut.ensures.items c.take_last_slot.ensures.item
    ∙ ap (λ l. c.take_last_slot.result ∷ l) (sym (left-behind items _ c.self.invariant c.self.view_is (c.args.passed + 1)
    (omega (arith, c.requires.enough)) (omega arith) _ c.take_last_slot.new.slots
    (g.N.ArrayType.Store.store_with c.self.inside.store part).1))
