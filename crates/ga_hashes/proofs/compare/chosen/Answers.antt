use Rattle.ga_hashes.proofs.compare.chosen.Goals as goal
use Rattle.std.proofs.Common.{◌≡◌, ◌∙◌, Bool, List, ℕ, false, if◌then◌else◌, length, map, sym, true, zip}
use Rattle.std.proofs.lemmas.Slice.Zip.{firsts-zip, seconds-zip}

-- the same side of each pair is the list on that side
one_side : (flag : Bool) (left right : List ℕ) → length right ≡ length left
    → map (λ p. if flag then p.0 else p.1) (zip left right) ≡ (if flag then left else right)
one_side true left right same = firsts-zip left right same
one_side false left right same = seconds-zip left right same

pub returns : goal.returns
returns g c =
    let same : length c.args.right.now ≡ length c.args.left.now =
    rw c.as_slice-2.ensures.items at c.as_slice-2.ensures.len
    ∙ sym (rw c.as_slice.ensures.items at c.as_slice.ensures.len) in
    c.choose_each.ensures ∙ one_side c.args.flag _ _ same
