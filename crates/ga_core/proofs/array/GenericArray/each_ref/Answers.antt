use Rattle.ga_core.proofs.ActsLemmas.{views_of_run}
use Rattle.ga_core.proofs.array.GenericArray.each_ref.Goals as goal
use Rattle.std.proofs.Common.{◌≡◌, ◌∙◌, None, Option, Some, ap, arith, map, option_map, refl, rules, slice_get, sym}
use Rattle.std.proofs.lemmas.List.{length-map}
use Rattle.std.proofs.lemmas.List.FromFn.{fill_by_all}
use Rattle.std.proofs.lemmas.Option.{slice_get-map, unwrap_or-slice_get}
use Rattle.std.specs.Option.{option_copied, unwrap_or}

joined : {T : Type 0} (o : Option T) → unwrap_or (option_map Some o) None ≡ o
joined None = refl
joined (Some x) = refl

pub returns : goal.returns
returns g c =
    let items = c.as_slice-items.result.now in
    let all = map Some items in
    let gets = fill_by_all (slice_get items) all g.N.Unsigned.USIZE None
    (omega (arith, length-map items Some, c.as_slice-items.ensures.len))
    (λ k within. sym (unwrap_or-slice_get all k None) ∙ (ap (λ o. unwrap_or o None) (slice_get-map Some items k)
    ∙ joined (slice_get items k))) in
    views_of_run _ _ option_copied (slice_get items) _ _ _ c.generate.ensures.run.1
    (λ k item next call. (search rules, search rules))
    ∙ (sym gets ∙ ap (map Some) c.as_slice-items.ensures.items)
