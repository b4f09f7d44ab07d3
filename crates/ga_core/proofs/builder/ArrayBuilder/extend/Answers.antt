use Rattle.ga_core.proofs.FillLemmas.{Asks-from_takes, TakeRuns-from_takes}
use Rattle.ga_core.proofs.builder.ArrayBuilder.extend.Goals as goal
use Rattle.std.proofs.Common.{◌≡◌, ◌++◌}

pub returns : goal.returns
returns g c =
    let next = g.I.Iterator.next_gives in
    let took = c.fill.ensures.taken in
    record {
      taken = took;
      runs = TakeRuns-from_takes next (λ items. c.fill.new.self ≡ c.args.self.now ++ items) _ _ _ _ took.2 took.1;
      asks = Asks-from_takes next _ _ _ _ took.2;
      bound = c.fill.ensures.bound;
      can = c.fill.ensures.can;
    }
