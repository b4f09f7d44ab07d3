use Rattle.ga_headline.proofs.BuildLemmas.{built-of_good}
use Rattle.ga_headline.proofs.builds.build_of_items.Goals as goal

pub returns-clause-items : goal.returns-clause-items
returns-clause-items g c = built-of_good g.S.AsSlice.items c.build_of_results.result c.args.items.items
    c.build_of_results.ensures.good
