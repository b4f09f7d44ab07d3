use Rattle.ga_core.proofs.CallLemmas.{holds-within}
use Rattle.ga_core_examples.proofs.codecs.base32.Goals as goal
use Rattle.std.proofs.Common.{◌<◌, subst, sym}

pub map_inline-requires : goal.map_inline-requires
map_inline-requires g c = record {
  callable = λ passed group others texts reached splits ran at is may.
      let low : at < 32 = subst (λ n. n < 32) (sym is)
      (holds-within (λ n. n < 32) c.args.groups passed others group c.requires splits) in
      search low;
}
