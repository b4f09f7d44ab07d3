use Rattle.ga_boxed.proofs.boxed_array.BoxedArray.repeat.Goals as goal
use Rattle.ga_boxed.proofs.boxed_array.BoxedArray.repeat.Goals.{then-USIZE-gt0, else-USIZE-gt0}
use Rattle.ga_core.proofs.CopyLemmas.{same-with_last}
use Rattle.std.proofs.Common.{◌≡◌, ap, arith, replicate, sym, ◌∙◌}
use Rattle.std.proofs.lemmas.List.{nil_from_length}

pub returns-clause-same : goal.returns-clause-same
returns-clause-same g c = λ equal. c.from_block.ensures ∙ elim c.if-USIZE-gt0.branch [
  | then-USIZE-gt0 w ↦
      ap (λ b. b.items) w.block-is ∙ (w.put-then-USIZE-gt0.ensures.items
      ∙ same-with_last g.T.Clone.is_clone c.args.item g.N.Unsigned.USIZE c.loop-clone.block.items equal
      c.loop-clone.invariant.clones (omega arith))
  | else-USIZE-gt0 w ↦
      let none : g.N.Unsigned.USIZE ≡ 0 = omega arith in
      ap (λ b. b.items) w.block-is ∙ (nil_from_length c.loop-clone.block.items (omega arith)
      ∙ ap (λ n. replicate n c.args.item) (sym none))
]
