-- A list of which a part was written over.
--     refilled                               as many items as there were are the refilled list
--     part_long                              the part has as many items as it was asked for
--     part_filled                            as many items as the part has stand in its place
--     part_fills                             the list with a part written over has as many items as it had
--     part-before, part-within, part-behind  what stands before the part, in it and behind it
--     part-all                               all items are the part
use borrow.Rule.Slice.PartMut.{mid_of, post_of, put_mid, same_len_mid}
use lib.ListN.{drop_of_length-le, length-drop}
use lib.Seq.{drop-drop, length-take-le, take_all}
use Rattle.ga_views.specs.Parts.{part_set}
use Rattle.std.proofs.Common.{◌≡◌, ℕ, ◌+◌, ◌≤◌, List, ◌++◌, ◌∙◌, ap, arith, drop, length, refl, sym, take}
use Rattle.std.proofs.Math.Seq.{take-length}
use Rattle.std.proofs.lemmas.List.{append-nil, drop_at, take_at}
use Rattle.std.specs.List.{length_refill, refill}

pub refilled : {T : Type 0} (len : ℕ) (xs ws : List T) → length xs ≡ len → length ws ≡ len → ws ≡ refill len xs ws
refilled len xs ws long e =
    sym (ap (λ l. take len (ws ++ l)) (drop_of_length-le xs (omega (arith, e, long)))
    ∙ ap (take len) (append-nil ws) ∙ take_all len ws (omega (arith, e)))

pub part_long : {T : Type 0} (from len : ℕ) (xs : List T) → from + len ≤ length xs → length (mid_of from len xs) ≡ len
part_long from len xs within =
    let left = length-drop from xs in
    length-take-le len (drop from xs) (omega arith)

-- the part is written as far as it goes
part-is : {T : Type 0} (from len : ℕ) (xs ws : List T)
    → put_mid from len xs (refill len (mid_of from len xs) ws) ≡ part_set from len xs ws
part-is from len xs ws = ap (λ l. take from xs ++ (refill len (mid_of from len xs) ws ++ l)) (drop-drop len from xs)

pub part_filled : {T : Type 0} (from len : ℕ) (xs ws : List T) → from + len ≤ length xs
    → length ws ≡ length (mid_of from len xs)
    → put_mid from len xs ws ≡ refill (length xs) xs (part_set from len xs ws)
part_filled from len xs ws within e =
    let part = mid_of from len xs in
    let long = part_long from len xs within in
    let same : put_mid from len xs ws ≡ part_set from len xs ws =
    ap (λ l. take from xs ++ (l ++ post_of from len xs)) (refilled len part ws long (e ∙ long))
    ∙ part-is from len xs ws in
    refilled (length xs) xs (put_mid from len xs ws) refl (same_len_mid from len xs ws e)
    ∙ ap (refill (length xs) xs) same

pub part_fills : {T : Type 0} (from len : ℕ) (xs ws : List T) → from + len ≤ length xs
    → refill (length xs) xs (part_set from len xs ws) ≡ part_set from len xs ws
part_fills from len xs ws within =
    let part = take len (drop from xs) in
    let filled = refill len part ws in
    let long = part_long from len xs within in
    let whole = same_len_mid from len xs filled (sym (length_refill len part ws (sym long)) ∙ sym long) in
    sym (refilled (length xs) xs (part_set from len xs ws) refl (ap length (sym (part-is from len xs ws)) ∙ whole))

-- `after` is what stands once the part was written
module _ {T : Type 0} (from len : ℕ) (xs ws after : List T) (within : from + len ≤ length xs)
    (written : after ≡ refill (length xs) xs (part_set from len xs ws)) where
  abbrev filled : List T
  filled = refill len (take len (drop from xs)) ws

  abbrev behind : List T
  behind = drop (from + len) xs

  filled_long : length filled ≡ len
  filled_long = sym (length_refill len (take len (drop from xs)) ws (sym (part_long from len xs within)))

  before_long : length (take from xs) ≡ from
  before_long = length-take-le from xs (omega (arith, within))

  stands : after ≡ take from xs ++ (filled ++ behind)
  stands = written ∙ part_fills from len xs ws within

  past : drop from after ≡ filled ++ behind
  past = rw stands (drop_at (take from xs) (filled ++ behind) from before_long)

  pub part-before : take from after ≡ take from xs
  part-before = rw stands (take_at (take from xs) (filled ++ behind) from before_long)

  pub part-within : take len (drop from after) ≡ filled
  part-within = rw past (take_at filled behind len filled_long)

  pub part-behind : drop (from + len) after ≡ behind
  part-behind = rw (← drop-drop len from after, past) (drop_at filled behind len filled_long)

pub part-all : {T : Type 0} (xs ws : List T) → refill (length xs) xs (part_set 0 (length xs) xs ws)
    ≡ refill (length xs) xs ws
part-all xs ws =
    let after = refill (length xs) xs (part_set 0 (length xs) xs ws) in
    let count : length after ≡ length xs = sym (length_refill (length xs) xs (part_set 0 (length xs) xs ws) refl) in
    sym (take_all (length xs) after (omega (arith, count)))
    ∙ (part-within 0 (length xs) xs ws after (omega arith) refl ∙ ap (λ l. refill (length xs) l ws) (take-length xs))
