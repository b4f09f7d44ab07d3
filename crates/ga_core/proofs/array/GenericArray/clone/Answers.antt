use Rattle.ga_core.proofs.CopyLemmas.{AllZip-same}
use Rattle.ga_core.proofs.MadeLemmas.{made-is_written, made-of}
use Rattle.ga_core.proofs.array.GenericArray.clone.Goals as goal
use Rattle.std.proofs.Common.{◌∙◌, refl, sym}
use Rattle.std.specs.List.{AllZip}

pub write_clones-requires : goal.write_clones-requires
write_clones-requires g c = record { room = c.as_mut_slice.ensures.len ∙ sym c.as_slice-items.ensures.len }

pub returns-in-Ok : goal.returns-in-Ok
returns-in-Ok g c =
    let made = c.repack.ensures ∙ made-is_written c.as_mut_slice.ensures.items c.write_clones.auto.slots in
    let items = made-of (AllZip g.T.Clone.is_clone) c.as_slice-items.ensures.items made c.in-Ok.ensures.items in
    record {
      items = items;
      same = λ exact. AllZip-same g.T.Clone.is_clone c.args.self.now c.repack.result exact items;
      succeeds = λ _. refl;
      empty = λ _. refl;
    }
