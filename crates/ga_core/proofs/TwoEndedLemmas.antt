-- Steps at the ends of a list, and folds over what is left: the calls so far, one more, and all.
use Rattle.ga_core.proofs.CallLemmas.{FoldRun-of_items, FoldedSoFar, folded-more, folded-rest, may_fold-at}
use Rattle.ga_core.proofs.CutLemmas.{nth_back-step}
use Rattle.ga_core.proofs.LeftLemmas.{one_gone}
use Rattle.ga_core.specs.Calls.{MayFold}
use Rattle.ga_core.specs.Cut.{StepGives, back, front}
use Rattle.ga_core.specs.Runs.{FoldRun}
use Rattle.std.proofs.Common.{◌≡◌, ◌∙◌, ◌<◌, ◌∷◌, ◌++◌, [], List, None, Option, Some, ap, arith, length, refl, reverse}
use Rattle.std.proofs.lemmas.List.{length-reverse, reverse-reverse}
use Rattle.std.specs.Iterator.{YieldsLast}

module _ {T : Type 0} where
  -- `next_back` is a step at the back
  pub back-step : (items : List T) (reply : Option T) (left : List T) → YieldsLast (λ all. all) items reply left
      → StepGives (back 0) items reply left
  back-step items reply left step = nth_back-step 0 0 items items reply left (omega arith) refl step

  -- a step at the front took the first item, and fewer are left
  pub front-taken : (items : List T) (item : T) (left : List T) → StepGives (front 0) items (Some item) left
      → (items ≡ item ∷ left) × (length left < length items)
  front-taken [] item left step = absurd (let no : Some item ≡ None = step.0 in cc)
  front-taken (x ∷ items) item left step =
      let same : Some item ≡ Some x = step.0 in
      let others : left ≡ items = step.1 in
      let first : x ∷ items ≡ item ∷ left = cc in
      (first, one_gone (x ∷ items) item left first)

  -- or there was none
  pub front-none : (items left : List T) → StepGives (front 0) items None left → items ≡ []
  front-none [] left step = refl
  front-none (x ∷ items) left step = absurd (let no : None ≡ Some x = step.0 in cc)

  -- a step at the back is one at the front of the list reversed
  reversed : (items : List T) (reply : Option T) (left : List T) → StepGives (back 0) items reply left
      → StepGives (front 0) (reverse items) reply (reverse left)
  reversed items reply left step = (step.0, ap reverse step.1 ∙ reverse-reverse _)

  pub back-taken : (items : List T) (item : T) (left : List T) → StepGives (back 0) items (Some item) left
      → (reverse items ≡ item ∷ reverse left) × (length left < length items)
  back-taken items item left step =
      let first = front-taken (reverse items) item (reverse left) (reversed items (Some item) left step) in
      (first.0, omega (arith, first.1, length-reverse items, length-reverse left))

  pub back-none : (items left : List T) → StepGives (back 0) items None left → reverse items ≡ []
  back-none items left step = front-none (reverse items) (reverse left) (reversed items None left step)

module _ {F A T : Type 0} {step : F → A → T → A → F → Type 0} {f : F} {init : A} {all left : List T} {reached : F}
    {value : A} (so_far : FoldedSoFar step f init all left reached value) where
  -- the next call may be made
  pub folded-callable : (pre : F → A → T → Type 0) → MayFold (λ item. item) pre step f init all → (item : T)
      (others : List T) → left ≡ item ∷ others → pre reached value item
  folded-callable pre may item others came =
      may_fold-at (λ x. x) pre step f init all may so_far.passed item others reached value
      (so_far.whole ∙ ap (λ l. so_far.passed ++ l) came)
      (FoldRun-of_items step f init so_far.passed value reached so_far.run) item refl

  -- it was made
  pub folded-next : (item : T) (others : List T) (b : A) (g : F) → left ≡ item ∷ others → step reached value item b g
      → FoldedSoFar step f init all others g b
  folded-next item others b g came call = folded-more so_far (item ∷ []) others b g came ((g, b), call, refl)

  -- none is left
  pub folded-all : left ≡ [] → FoldRun step f init all value reached
  folded-all none = folded-rest so_far value reached (rw none refl)
