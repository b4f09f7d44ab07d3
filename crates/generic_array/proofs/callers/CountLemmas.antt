-- How often a value is in what a run of steps accounts for.
use Rattle.generic_array.specs.Account.{Account, gone_back, gone_front, items_put, items_returned}
use Rattle.generic_array.specs.declared.steps.step.Reply.{Reply}
use Rattle.generic_array.specs.declared.steps.step.Step.{Step}
use Rattle.std.proofs.Common.{◌≡◌, ℕ, ◌+◌, List, ◌++◌, Bool, cond, sym}
use Rattle.std.proofs.lemmas.List.Sorted.{sum_by-IsPermutation}
use Rattle.std.proofs.lemmas.List.Sums.{sum_by-append}
use Rattle.std.specs.List.{count_by, flat_map}

module _ {T R : Type 0} (first : List T) (steps : List (Step T)) (replies : List (Reply T R)) (last : List T) where
  -- a value is as often among what there was and what was put in as among what went, what was returned and what is left
  pub Account-counts : Account first steps replies last → (test : T → Bool)
      → count_by test first + count_by test (flat_map items_put steps)
      ≡ count_by test (gone_front first steps) + (count_by test (gone_back first steps) +
      (count_by test (flat_map items_returned replies) + count_by test last))
  Account-counts account test =
      let one : T → ℕ = λ x. cond (test x) 1 0 in
      let all = first ++ flat_map items_put steps in
      let ends = gone_front first steps ++ (gone_back first steps ++ (flat_map items_returned replies ++ last)) in
      sym (simp sum_by-append at (sum_by-IsPermutation one all ends account.whole))
