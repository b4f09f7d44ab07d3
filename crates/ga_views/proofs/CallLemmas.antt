-- Where a closure may be called in turn, it may be called in each state that its calls lead to.
use Rattle.ga_views.proofs.CutLemmas.{taken-some}
use Rattle.ga_views.specs.Calls.{MayFold, MayGenerate, MayMap, MayTryGenerate, MayTryMap, MayZip, Stays}
use Rattle.ga_views.specs.Entries.{CallAt, CallAtPair, FoldAt}
use Rattle.ga_views.specs.Runs.{ClosureRun, FoldRun}
use Rattle.std.proofs.Common.{◌≡◌, ◌∙◌, ℕ, ◌<◌, List, [], ◌∷◌, ◌++◌, Ok, Result, ap, append_assoc, map, refl, subst, sym}
use Rattle.std.proofs.lemmas.List.{append-nil}
use Rattle.std.proofs.lemmas.List.Elements.{All-head, All-tail}
use Rattle.std.specs.List.{All, FoldsTo, range_with_len, zip}

-- what holds of all items holds of the one that a walk has come to: a closure that asks for it may be called
pub holds-within : {T : Type 0} (P : T → Type 0) (items passed others : List T) (item : T) → All P items
    → items ≡ passed ++ item ∷ others → P item
holds-within P items [] others item all whole = All-head P item others (subst (All P) whole all)
holds-within P items (x ∷ passed) others item all whole =
    holds-within P (passed ++ item ∷ others) passed others item
    (All-tail P x (passed ++ item ∷ others) (subst (All P) whole all)) refl

module _ {F X Y : Type 0} (step : F → X → Y → F → Type 0) where
  -- where no call changes f, a run leaves it as it is
  stays-run : (f : F) → Stays step f → (xs : List X) (ys : List Y) (last : F) → ClosureRun step f xs ys last → last ≡ f
  stays-run f stays [] [] last run = sym run
  stays-run f stays (x ∷ xs) (y ∷ ys) last run =
      stays-run f stays xs ys last (subst (λ s. ClosureRun step s xs ys last) (stays x y run.0 run.1) run.2)
  stays-run f stays _ _ last run = absurd run

  -- P holds of the state that a run reaches where it holds of the first and no call changes that
  stays-holds : (P : F → Type 0) (f : F) (xs : List X) (ys : List Y) (last : F) → ClosureRun step f xs ys last → P f
      → Stays step f → P last
  stays-holds P f xs ys last run here stays = subst P (sym (stays-run f stays xs ys last run)) here

  -- a run over items is one over entries that stand for themselves
  pub ClosureRun-of_items : (f : F) (xs : List X) (ys : List Y) (last : F) → ClosureRun step f xs ys last
      → ClosureRun (CallAt (λ x. x) step) f xs ys last
  ClosureRun-of_items f [] [] last run = run
  ClosureRun-of_items f (x ∷ xs) (y ∷ ys) last run =
      (run.0, (x, refl, run.1), ClosureRun-of_items run.0 xs ys last run.2)
  ClosureRun-of_items f _ _ last run = absurd run

module _ {F A X : Type 0} (step : F → A → X → A → F → Type 0) where
  -- where no call changes f, a fold leaves it as it is
  pub stays-fold : (f : F) → ((a : A) (x : X) (b : A) (g : F) → step f a x b g → g ≡ f)
      → (a : A) (xs : List X) (b : A) (last : F) → FoldRun step f a xs b last → last ≡ f
  stays-fold f stays a [] b last run = sym (ap (λ p. p.0) run)
  stays-fold f stays a (x ∷ xs) b last run =
      stays-fold f stays run.0.1 xs b last (rw (stays a x run.0.1 run.0.0 run.1) at run.2)

  -- a fold over items is one over entries that stand for themselves
  pub FoldRun-of_items : (f : F) (a : A) (xs : List X) (b : A) (last : F) → FoldRun step f a xs b last
      → FoldRun (FoldAt (λ x. x) step) f a xs b last
  FoldRun-of_items f a [] b last run = run
  FoldRun-of_items f a (x ∷ xs) b last run = (run.0, (x, refl, run.1), FoldRun-of_items run.0.0 run.0.1 xs b last run.2)

module _ {F Y : Type 0} (pre : F → ℕ → Type 0) (step : F → ℕ → Y → F → Type 0) (f : F) where
  pub may_generate-at : (n : ℕ) → MayGenerate pre step f n → (k : ℕ) (ys : List Y) (reached : F) → k < n
      → ClosureRun step f (range_with_len 0 k) ys reached → pre reached k
  may_generate-at n may = λ k ys reached below run. may k ys reached below run
      (stays-holds step (λ s. pre s k) f (range_with_len 0 k) ys reached run)

module _ {F Y E : Type 0} (pre : F → ℕ → Type 0) (step : F → ℕ → Result Y E → F → Type 0) (f : F) where
  pub may_try_generate-at : (n : ℕ) → MayTryGenerate pre step f n → (k : ℕ) (good : List Y) (reached : F) → k < n
      → ClosureRun step f (range_with_len 0 k) (map Ok good) reached → pre reached k
  may_try_generate-at n may = λ k good reached below run. may k good reached below run
      (stays-holds step (λ s. pre s k) f (range_with_len 0 k) (map Ok good) reached run)

module _ {F I T : Type 0} (entry : I → T) (pre : F → I → Type 0) where
  pub may_map-at : {Y : Type 0} (step : F → I → Y → F → Type 0) (f : F) (xs : List T) → MayMap entry pre step f xs
      → (passed : List T) (x : T) (others : List T) (ys : List Y) (reached : F) → xs ≡ passed ++ x ∷ others
      → ClosureRun (CallAt entry step) f passed ys reached → (item : I) → entry item ≡ x → pre reached item
  may_map-at step f xs may = λ passed x others ys reached whole run item is.
      may passed x others ys reached whole run item is
      (λ here stays. stays-holds (CallAt entry step) (λ s. pre s item) f passed ys reached run here
      (λ v y g call. stays call.0 y g call.2))

  pub may_try_map-at : {Y E : Type 0} (step : F → I → Result Y E → F → Type 0) (f : F) (xs : List T)
      → MayTryMap entry pre step f xs
      → (passed : List T) (x : T) (others : List T) (good : List Y) (reached : F) → xs ≡ passed ++ x ∷ others
      → ClosureRun (CallAt entry step) f passed (map Ok good) reached → (item : I) → entry item ≡ x → pre reached item
  may_try_map-at step f xs may = λ passed x others good reached whole run item is.
      may passed x others good reached whole run item is
      (λ here stays. stays-holds (CallAt entry step) (λ s. pre s item) f passed (map Ok good) reached run here
      (λ v y g call. stays call.0 y g call.2))

module _ {F I J T B Y : Type 0} (entry : I → T) (other : J → B) (pre : F → I → J → Type 0)
    (step : F → I → J → Y → F → Type 0) (f : F) where
  pub may_zip-at : (xs : List T) (bs : List B) → MayZip entry other pre step f xs bs
      → (passed : List (T × B)) (p : T × B) (others : List (T × B)) (ys : List Y) (reached : F)
      → zip xs bs ≡ passed ++ p ∷ others
      → ClosureRun (CallAtPair entry other step) f passed ys reached → (left : I) (right : J) → entry left ≡ p.0
      → other right ≡ p.1 → pre reached left right
  may_zip-at xs bs may = λ passed p others ys reached whole run left right is also.
      may passed p others ys reached whole run left right is also
      (λ here stays. stays-holds (CallAtPair entry other step) (λ s. pre s left right) f passed ys reached run here
      (λ v y g call. stays call.0 call.1 y g call.4))

module _ {F A I T : Type 0} (entry : I → T) (pre : F → A → I → Type 0) where
  pub may_fold-at : (step : F → A → I → A → F → Type 0) (f : F) (a : A) (xs : List T) → MayFold entry pre step f a xs
      → (passed : List T) (x : T) (others : List T) (reached : F) (value : A) → xs ≡ passed ++ x ∷ others
      → FoldRun (FoldAt entry step) f a passed value reached → (item : I) → entry item ≡ x → pre reached value item
  may_fold-at step f a xs may = λ passed x others reached value whole run item is.
      may passed x others reached value whole run item is
      (λ here stays. rw (stays-fold _ f (λ b v c g call. stays b call.0 c g call.2) a passed value reached run) here)

-- a run of steps goes on where another ended
FoldsTo-append : {P X : Type 0} (step : P → X → P → Type 0) (p : P) (xs : List X) (q : P) (ys : List X) (r : P)
    → FoldsTo step p xs q → FoldsTo step q ys r → FoldsTo step p (xs ++ ys) r
FoldsTo-append step p [] q ys r same further = subst (λ s. FoldsTo step s ys r) (sym same) further
FoldsTo-append step p (x ∷ xs) q ys r run further =
    (run.0, run.1, FoldsTo-append step run.0 xs q ys r run.2 further)

-- Calls at the items passed led from f and init to the state and the value reached, and the others are left.
pub record FoldedSoFar {F A T : Type 0} (step : F → A → T → A → F → Type 0) (f : F) (init : A) (all left : List T)
    (reached : F) (value : A) : Type 0 where
  pub passed : List T
  pub whole : all ≡ passed ++ left
  pub run : FoldRun step f init passed value reached

module _ {F A T : Type 0} (step : F → A → T → A → F → Type 0) where
  -- no call was made
  pub folded-none : (f : F) (init : A) (all : List T) → FoldedSoFar step f init all all f init
  folded-none f init all = record { passed = []; whole = refl; run = refl }

module _ {F A T : Type 0} {step : F → A → T → A → F → Type 0} {f : F} {init : A} {all left : List T} {reached : F}
    {value : A} (so_far : FoldedSoFar step f init all left reached value) where
  -- calls at some more items followed
  pub folded-more : (part others : List T) (b : A) (g : F) → left ≡ part ++ others
      → FoldRun step reached value part b g → FoldedSoFar step f init all others g b
  folded-more part others b g came run = record {
    passed = so_far.passed ++ part;
    whole = taken-some all so_far.passed left part others so_far.whole came;
    run = FoldsTo-append _ (f, init) so_far.passed (reached, value) part (g, b) so_far.run run;
  }

  -- calls at all others followed
  pub folded-rest : (b : A) (g : F) → FoldRun step reached value left b g → FoldRun step f init all b g
  folded-rest b g run =
      let end = folded-more left [] b g (sym (append-nil left)) run in
      subst (λ items. FoldRun step f init items b g) (sym (end.whole ∙ append-nil end.passed)) end.run

module _ {F A I T : Type 0} {entry : I → T} {step : F → A → I → A → F → Type 0} {f : F} {init : A} {all left : List T}
    {reached : F} {value : A} (so_far : FoldedSoFar (FoldAt entry step) f init all left reached value) where
  -- the calls at some more items may be made
  pub folded-callable : (pre : F → A → I → Type 0) → MayFold entry pre step f init all → (part others : List T)
      → left ≡ part ++ others → MayFold entry pre step reached value part
  folded-callable pre may part others came = λ before item behind next v within run at is _.
      let end = folded-more so_far before (item ∷ (behind ++ others)) v next
      (came ∙ (ap (λ xs. xs ++ others) within ∙ append_assoc before (item ∷ behind) others)) run in
      may_fold-at entry pre step f init all may end.passed item (behind ++ others) next v end.whole end.run at is
