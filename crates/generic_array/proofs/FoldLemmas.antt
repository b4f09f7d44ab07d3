-- The loop of a fold over what a sequence gives, and what its calls come to.
use Rattle.ga_core.specs.Calls.{MayTryFold}
use Rattle.ga_core.proofs.CallLemmas.{stays-fold}
use Rattle.ga_core.specs.Entries.{FoldAt}
use Rattle.ga_core.specs.Runs.{FoldRun, TryFoldRun, good_step}
use Rattle.generic_array.specs.GivenEntries.{GivesEntries, SomeEntries}
use Rattle.std.proofs.Common.{◌≡◌, List, [], ◌∷◌, ◌++◌, inr, Result, Ok, Err, Option, None, Some, refl, ap, sym, ◌∙◌}
use Rattle.std.specs.Iterator.{AlwaysYields, Count, IsFinite}

module _ {S I T : Type 0} (steps : S → Option I → S → Type 0) (entry : I → T) where
  -- the iterator gave an item: the first of what was left
  next_given : (s : S) (left : List T) (item : I) (t : S) → AlwaysYields steps entry s left → steps s (Some item) t
      → (others : List T) × (left ≡ entry item ∷ others) × AlwaysYields steps entry t others
  next_given s [] item t gives step = absurd (gives item t step)
  next_given s (x ∷ left) item t gives step =
      let here = gives.1 item t step in (left, ap (λ y. y ∷ left) (sym here.0), here.1)

  -- it ended: nothing was left
  end_given : (s : S) (left : List T) (t : S) → AlwaysYields steps entry s left → steps s None t → left ≡ []
  end_given s [] t gives step = refl
  end_given s (x ∷ left) t gives step = absurd (gives.0 t step)

-- f may be called at an entry of each value in turn, each time with the value reached
abbrev pub MayFoldAlong : {F A I T : Type 0} → (F → A → I → Type 0) → (F → A → I → A → F → Type 0) → (I → T) → F → A
    → List T → Type 0
MayFoldAlong {F} {A} {I} {T} pre step entry f a values = (passed : List T) (x : T) (others : List T) (reached : F) (b : A)
    → values ≡ passed ++ x ∷ others → FoldRun (FoldAt entry step) f a passed b reached → (item : I) → entry item ≡ x
    → pre reached b item

-- The loop of a fold, whose calls are steps: the iterator may be asked and ends, the closure may be called at what is
-- left, and for all values that the entries stand for, a run over those that are left is one over all.
pub record FoldLoop {S I F A B : Type 0} (T : Type 0) (can : S → Type 0) (steps : S → Option I → S → Type 0)
    (remaining : S → Count) (pre : F → A → I → Type 0) (step : F → A → I → A → F → Type 0)
    (Run : (I → T) → F → A → List T → B → F → Type 0) (entries : S) (f₀ : F) (a₀ : A) (s : S) (f : F)
    (a : A) : Type 0 where
  pub may : can s
  pub ends : IsFinite (remaining s)
  pub callable : (entry : I → T) × (left : List T) × AlwaysYields steps entry s left
      × MayFoldAlong pre step entry f a left
  pub joins : (entry : I → T) (values : List T) → GivesEntries can steps remaining entry entries values
      → (left : List T) × AlwaysYields steps entry s left
      × ((b : B) (last : F) → Run entry f a left b last → Run entry f₀ a₀ values b last)

module _ {S I T F A B : Type 0} {can : S → Type 0} {steps : S → Option I → S → Type 0} {remaining : S → Count}
    {pre : F → A → I → Type 0} {step : F → A → I → A → F → Type 0} {Run : (I → T) → F → A → List T → B → F → Type 0}
    {entries : S} {f₀ : F} {a₀ : A} where
  -- at its entry no call was made
  pub FoldLoop-entry : (s : S) → s ≡ entries
      → SomeEntries can steps remaining entries (λ (entry : I → T). MayFoldAlong pre step entry f₀ a₀)
      → FoldLoop T can steps remaining pre step Run entries f₀ a₀ s f₀ a₀
  FoldLoop-entry s same asked = rw same (record {
    may = asked.2.0;
    ends = asked.2.1;
    callable = (asked.0, asked.1, asked.2.2, asked.3);
    joins = λ entry values gives. (values, gives.2, λ b last run. run);
  })

  module _ {s : S} {f : F} {a : A} (loop : FoldLoop T can steps remaining pre step Run entries f₀ a₀ s f a) where
    -- the call at the item that comes may be made
    pub FoldLoop-callable : (item : I) (t : S) → steps s (Some item) t → pre f a item
    FoldLoop-callable item t next =
        let asked = loop.callable in
        let given = next_given steps asked.0 s asked.1 item t asked.2 next in
        asked.3 [] (asked.0 item) given.0 f a given.1 refl item refl

    -- it was made
    pub FoldLoop-more : ((entry : I → T) (item : I) (b : A) (g : F) (others : List T) (r : B) (last : F)
        → step f a item b g → Run entry g b others r last → Run entry f a (entry item ∷ others) r last)
        → (item : I) (t : S) (g : F) (b : A) → steps s (Some item) t → step f a item b g → can t
        → IsFinite (remaining t) → FoldLoop T can steps remaining pre step Run entries f₀ a₀ t g b
    FoldLoop-more goes item t g b next call may ends =
        let asked = loop.callable in
        let given = next_given steps asked.0 s asked.1 item t asked.2 next in
        let along : MayFoldAlong pre step asked.0 g b given.0 = λ passed x others reached c whole run.
        asked.3 (asked.0 item ∷ passed) x others reached c (given.1 ∙ ap (λ l. asked.0 item ∷ l) whole)
        ((g, b), (item, refl, call), run) in
        record {
          may = may;
          ends = ends;
          callable = (asked.0, given.0, given.2, along);
          joins = λ entry values gives.
              let so_far = loop.joins entry values gives in
              let left = next_given steps entry s so_far.0 item t so_far.1 next in
              (left.0, left.2, λ r last run. so_far.2 r last (rw left.1 (goes entry item b g left.0 r last call run)));
        }

    -- it is the last of the run
    pub FoldLoop-last : (item : I) (t : S) (r : B) (last : F) → steps s (Some item) t → (entry : I → T) (values : List T)
        → ((others : List T) → Run entry f a (entry item ∷ others) r last)
        → GivesEntries can steps remaining entry entries values → Run entry f₀ a₀ values r last
    FoldLoop-last item t r last next entry values run gives =
        let so_far = loop.joins entry values gives in
        let left = next_given steps entry s so_far.0 item t so_far.1 next in
        so_far.2 r last (rw left.1 (run left.0))

    -- no item is left
    pub FoldLoop-end : (t : S) (r : B) → steps s None t → (entry : I → T) (values : List T) → Run entry f a [] r f
        → GivesEntries can steps remaining entry entries values → Run entry f₀ a₀ values r f
    FoldLoop-end t r next entry values run gives =
        let so_far = loop.joins entry values gives in
        so_far.2 r f (rw (end_given steps entry s so_far.0 t so_far.1 next) run)

-- items that stand for themselves
module _ {F A X : Type 0} (step : F → A → X → A → F → Type 0) where
  pub FoldRun-by_items : (f : F) (a : A) (xs : List X) (b : A) (g : F) → FoldRun (FoldAt (λ x. x) step) f a xs b g
      → FoldRun step f a xs b g
  FoldRun-by_items f a [] b g run = run
  FoldRun-by_items f a (x ∷ xs) b g run =
      (run.0, rw (← run.1.1) run.1.2, FoldRun-by_items run.0.0 run.0.1 xs b g run.2)

-- a good call before a fold that may fail
pub TryFoldRun-cons : {F A X E : Type 0} (step : F → A → X → Result A E → F → Type 0) (f : F) (a : A) (x : X) (b : A)
    (g : F) (xs : List X) (r : Result A E) (last : F) → step f a x (Ok b) g → TryFoldRun step g b xs r last
    → TryFoldRun step f a (x ∷ xs) r last
TryFoldRun-cons step f a x b g xs (Ok c) last call run = (b, g, call, run)
TryFoldRun-cons step f a x b g xs (Err error) last call run = inr (b, g, call, run)

-- where f may be called in a fold up to its first error, it may be called in each state that good calls lead to
module _ {F A I T E : Type 0} (entry : I → T) (pre : F → A → I → Type 0)
    (step : F → A → I → Result A E → F → Type 0) where
  pub may_try_fold-at : (f : F) (a : A) (xs : List T) → MayTryFold entry pre step f a xs
      → MayFoldAlong pre (good_step step) entry f a xs
  may_try_fold-at f a xs may = λ passed x others reached value whole run item is.
      may passed x others reached value whole run item is (λ here stays. rw (stays-fold (good_step (FoldAt entry step)) f
      (λ b v c g call. stays b call.0 (Ok c) g call.2) a passed value reached run) here)
