use Rattle.ga_core_examples.proofs.fixed_list.FixedList.extend.Goals as goal

-- the clause of `extend` of the builder, at the list that the fixed list is
pub returns : goal.returns
returns g c = rw c.self.view_is at c.extend.ensures.runs
