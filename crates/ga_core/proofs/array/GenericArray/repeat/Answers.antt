use Rattle.ga_core.proofs.CopyLemmas.{Repeats-same}
use Rattle.ga_core.proofs.MadeLemmas.{made-is_written, made-of}
use Rattle.ga_core.proofs.array.GenericArray.repeat.Goals as goal
use Rattle.ga_core.specs.Copies.{Repeats}
use Rattle.std.proofs.Common.{◌≤◌, ◌∙◌, refl, subst, sym}

pub returns-in-Ok : goal.returns-in-Ok
returns-in-Ok g c =
    let made = c.repack.ensures ∙ made-is_written c.as_mut_slice.ensures.items c.write_copies.auto.slots in
    let items = made-of (Repeats g.T.Clone.is_clone c.args.item) c.as_mut_slice.ensures.len made c.in-Ok.ensures.items in
    record {
      items = items;
      same = λ equal. Repeats-same g.T.Clone.is_clone c.args.item g.N.Unsigned.USIZE _ equal items;
      few = λ _. refl;
      succeeds = λ _. refl;
    }

pub returns-in-Err : goal.returns-in-Err
returns-in-Err g c = record {
  items = tt;
  same = λ _. tt;
  few = λ few. c.in-Err.ensures.few (subst (λ n. n ≤ 1) (sym c.as_mut_slice.ensures.len) few);
  succeeds = c.in-Err.ensures.succeeds;
}
