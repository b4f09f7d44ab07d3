use Rattle.ga_ciphers.proofs.UnpadLemmas.{ends}
use Rattle.ga_ciphers.proofs.padding.unpad.Goals as goal
use Rattle.ga_ciphers.specs.Padding.{padded}
use Rattle.std.proofs.Common.{◌≡◌, ◌-◌, ◌<◌, ap, ap₂, arith, length, refl, replicate, sym, take, ◌++◌, ◌∙◌}
use Rattle.std.proofs.lemmas.List.{take-append-drop}

pub returns-else-are_all : goal.returns-else-are_all
returns-else-are_all c =
    let last = c.from-missing.result in
    let behind = c.split_at.result.1.now in
    let long : length behind ≡ last = omega (arith, c.split_at.ensures.back_len) in
    record {
      variant = (
        λ is. cc,
        λ is.
            let at_end = ends c.args.block.now is.0 is.1 last is.2 is.3 (sym c.from-missing.ensures) in
            let yes = c.are_all.ensures.1 (c.split_at.ensures.back
            ∙ (at_end.back ∙ ap₂ replicate (sym long) c.from-missing.ensures)) in
            cc,
      );
      rest = λ rest missing some is. tt;
    }

pub returns-then-are_all : goal.returns-then-are_all
returns-then-are_all c =
    let block = c.args.block.now in
    let last = c.from-missing.result in
    let front = take (length block - last) block in
    let behind = c.split_at.result.1.now in
    let some : 0 < last = omega arith in
    let long : length behind ≡ last = omega (arith, c.split_at.ensures.back_len) in
    let padding : behind ≡ replicate last last =
    c.are_all.ensures.0 c.if-are_all.true ∙ ap₂ replicate long (sym c.from-missing.ensures) in
    let is : block ≡ padded front last = sym (take-append-drop (length block - last) block)
    ∙ ap (λ xs. front ++ xs) (sym c.split_at.ensures.back ∙ padding) in
    record {
      variant = (λ yes. (front, last, some, is), λ padded. refl);
      rest = λ rest missing some is. c.split_at.ensures.front
          ∙ (ends block rest missing last some is (sym c.from-missing.ensures)).front;
    }
