use Rattle.ga_core.proofs.builder.ArrayBuilder.remove.Goals as goal
use Rattle.std.proofs.Common.{◌≡◌, ◌∷◌, [], ◌++◌, ◌∙◌, length, refl, sym}
use Rattle.std.proofs.lemmas.List.{same_from_push}
use Rattle.std.proofs.lemmas.Option.{slice_get_read}

pub returns-clause-others : goal.returns-clause-others
returns-clause-others g c =
    let item = c.unwrap.result in
    let taken : c.carry_behind.new.self ≡ c.pop.new.self ++ item ∷ [] = rw c.unwrap.ensures at c.pop.ensures.some in
    (same_from_push _ _ _ _ (sym taken ∙ c.carry_behind.ensures.carried item)).0

pub returns-clause-item : goal.returns-clause-item
returns-clause-item g c =
    let item = c.unwrap.result in
    let taken : c.carry_behind.new.self ≡ c.pop.new.self ++ item ∷ [] = rw c.unwrap.ensures at c.pop.ensures.some in
    slice_get_read c.args.self.now (length c.args.self.now) c.args.index item refl c.requires.in_bounds
    (same_from_push _ _ _ _ (sym taken ∙ c.carry_behind.ensures.carried item)).1
