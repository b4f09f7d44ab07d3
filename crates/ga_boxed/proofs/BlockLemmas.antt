-- What a loop that puts items into a block, takes them out of one or passes over them knows of their count and of the
-- items.
use Rattle.ga_boxed.specs.Live.{Live}
use Rattle.ga_core.proofs.CutLemmas.{taken-more}
use Rattle.std.proofs.Common.{◌≡◌, ◌≢◌, ℕ, ◌+◌, ◌*◌, ◌^◌, ◌<◌, List, [], ◌∷◌, ◌++◌, length, ap, sym, ◌∙◌}
use Rattle.std.proofs.Common.{arith, length-append, MatchOption, None, Option, Some, pos_of_ne-zero, subst, zero-mul}
use Rattle.std.proofs.iter.Next.{Yields-more}
use Rattle.std.proofs.lemmas.List.{nil_from_length}
use Rattle.std.specs.Iterator.{Yields, YieldsFirst, YieldsLast}

-- none of any size fit
pub none_fits : (n size : ℕ) → n ≡ 0 → n * size < 2 ^ 63
none_fits n size none = subst (λ k. k * size < 2 ^ 63) (sym none) (omega (arith, zero-mul size))

-- The calls at the items passed so far, of which there are n, gave what the block holds, and it has room for what the
-- others give. Run says which calls, with which results, led to the state that was reached.
pub record PutSoFar {F X Y : Type 0} (Run : List X → List Y → F → Type 0) (passed : List X) (n all : ℕ) (block : Live Y)
    (reached : F) : Type 0 where
  pub run : Run passed block.items reached
  pub long : length block.items ≡ n
  pub room : n + block.room ≡ all

module _ {F X Y : Type 0} {Run : List X → List Y → F → Type 0} {passed : List X} {n all : ℕ} {block : Live Y} {reached : F} where
  -- one more call was made, and what it gave was put
  pub put-next : {after : Live Y} (y : Y) (longer : List X) (last : F) → PutSoFar Run passed n all block reached
      → after.items ≡ block.items ++ y ∷ [] → after.room + 1 ≡ block.room → Run longer (block.items ++ y ∷ []) last
      → PutSoFar Run longer (n + 1) all after last
  put-next {after} y longer last so_far grows fewer run = record {
    run = rw grows run;
    long = omega (arith, simp length-append at (ap length grows));
    room = omega arith;
  }

-- What a block holds was taken from an iterator, which may be asked on, and there is room for the others of all.
pub record TakenSoFar {I T : Type 0} (can_next : I → Type 0) (next_gives : I → Option T → I → Type 0) (first : I) (all : ℕ)
    (block : Live T) (items : I) : Type 0 where
  pub can : can_next items
  pub taken : Yields next_gives first block.items items
  pub room : length block.items + block.room ≡ all

-- one more was taken, and put
pub taken-next : {I T : Type 0} {can_next : I → Type 0} {next_gives : I → Option T → I → Type 0} {first : I} {all : ℕ}
    {block after : Live T} {items : I} (item : T) (left : I) → TakenSoFar can_next next_gives first all block items
    → after.items ≡ block.items ++ item ∷ [] → after.room + 1 ≡ block.room → next_gives items (Some item) left → can_next left
    → TakenSoFar can_next next_gives first all after left
taken-next {next_gives} {first} {block} {after} item left so_far grows fewer gives can = record {
  can = can;
  taken = rw grows (Yields-more next_gives first block.items _ item left so_far.taken gives);
  room = omega (arith, simp length-append at (ap length grows));
}

-- the block between its bounds, and as it is seen
module _ {T : Type 0} (start end : ℕ) (block now : Live T) (seen : block ≡ now)
    (long : start + length block.items ≡ end) where
  -- where the bounds meet, no item is held, and only there
  pub none_held : start ≡ end → now.items ≡ []
  none_held meet = nil_from_length now.items (omega (arith, long, meet, ap (λ b. length b.items) seen))

  pub some_held : start ≢ end → now.items ≢ []
  some_held apart none = apart (omega (arith, long, ap (λ b. length b.items) seen, ap length none))

  pub bounds_apart : now.items ≢ [] → start < end
  bounds_apart some =
      let held : 0 < length now.items = pos_of_ne-zero (λ none. some (nil_from_length now.items none)) in
      omega (arith, long, held, ap (λ b. length b.items) seen)

module _ {T : Type 0} where
  -- one more was moved
  pub moved_more : (before after left others all : List T) (item : T) → after ≡ before ++ item ∷ []
      → before ++ left ≡ all → left ≡ item ∷ others → after ++ others ≡ all
  moved_more before after left others all item grows so_far step =
      ap (λ l. l ++ others) grows ∙ sym (taken-more all before left item others (sym so_far) step)

module _ {X : Type 0} (before after : Live X) where
  -- the first item was taken, or there is none
  pub first-came : (item : Option X) → MatchOption item ((before.items ≡ []) × (after ≡ before))
      (λ item. (before.items ≡ item ∷ after.items) × (after.room ≡ before.room))
      → YieldsFirst (λ left. left) before.items item after.items
  first-came None (none, same) = (none, ap (λ block. block.items) same ∙ none)
  first-came (Some item) (here, _) = here

  -- the last item was taken, or there is none
  pub last-came : (item : Option X) → MatchOption item ((before.items ≡ []) × (after ≡ before))
      (λ item. (before.items ≡ after.items ++ item ∷ []) × (after.room ≡ before.room + 1))
      → YieldsLast (λ left. left) before.items item after.items
  last-came None (none, same) = (none, ap (λ block. block.items) same ∙ none)
  last-came (Some item) (here, _) = here
