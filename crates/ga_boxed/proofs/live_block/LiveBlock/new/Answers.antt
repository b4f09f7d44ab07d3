use Rattle.ga_boxed.proofs.BlockLemmas.{none_fits}
use Rattle.ga_boxed.proofs.live_block.LiveBlock.new.Goals as goal
use Rattle.ga_boxed.specs.Live.{live}
use Rattle.std.proofs.Common.{[], ◌∙◌, ap, refl}

pub returns-then-not-fits : goal.returns-then-not-fits
returns-then-not-fits g c = record {
  block = tt;
  empty = λ none. c.if-not-fits.ensures.1 (none_fits c.args.size _ none);
}

pub returns : goal.returns
returns g c =
    let made = c.in_ok-base.ensures in
    record {
      block = ap (λ items. live items c.in_ok-base.cells.room) made.items ∙ ap (λ room. live [] room) made.room;
      empty = λ none. refl;
    }
