use Rattle.ga_core.proofs.CopyLemmas.{AllZip-same}
use Rattle.ga_core.proofs.MadeLemmas.{made-of}
use Rattle.ga_core.proofs.SlotLemmas.{front-room, front-written, refill-long}
use Rattle.ga_core.proofs.array_iter.GenericArrayIter.clone.Goals as goal
use Rattle.ga_views.specs.Parts.{part_set}
use Rattle.std.proofs.Common.{◌∙◌, length, refl}
use Rattle.std.specs.List.{AllZip}

pub from_store-requires-clause-full : goal.from_store-requires-clause-full
from_store-requires-clause-full g c =
    let items = g.N.ArrayType.Store.items c.with_defaults-store.result in
    let part = part_set 0 (length c.as_slice-items.result.now) items c.write_clones.new.slots in
    refill-long items part _ (g.N.ArrayType.Store.store_with c.with_defaults-store.result part).1
    ∙ (c.with_defaults-store.ensures.len ∙ g.met.N.ArrayLength.capacity_is)

pub write_clones-requires : goal.write_clones-requires
write_clones-requires g c = record {
  room = (front-room (length c.as_slice-items.result.now) (g.N.ArrayType.Store.items c.with_defaults-store.result)
      c.part_mut.result.now c.part_mut.ensures.items c.as_slice-items.ensures.bound c.with_defaults-store.ensures.len
      g.met.N.ArrayLength.capacity_is).1;
}

pub returns-in-Ok : goal.returns-in-Ok
returns-in-Ok g c =
    let items = g.N.ArrayType.Store.items c.with_defaults-store.result in
    let copies = c.write_clones.new.slots in
    let len = length c.as_slice-items.result.now in
    let room = front-room len items c.part_mut.result.now c.part_mut.ensures.items c.as_slice-items.ensures.bound
    c.with_defaults-store.ensures.len g.met.N.ArrayLength.capacity_is in
    let stands = front-written len items copies _ room.0 (c.write_clones.auto.slots ∙ room.1)
    (g.N.ArrayType.Store.store_with c.with_defaults-store.result _).1 in
    let clones = made-of (AllZip g.T.Clone.is_clone) c.as_slice-items.ensures.items (c.from_store.ensures ∙ stands)
    c.in-Ok.ensures.items in
    record {
      items = clones;
      same = λ exact. AllZip-same g.T.Clone.is_clone c.args.self.now c.from_store.result exact clones;
      succeeds = λ _. refl;
    }
