use Rattle.ga_hashes.proofs.HkdfLemmas.{BeginsWithBlocks-none}
use Rattle.ga_hashes.proofs.hkdf.expand.Goals as goal
use Rattle.std.proofs.Common.{refl}

pub loop-number-init : goal.loop-number-init
loop-number-init g c = record {
  begun = BeginsWithBlocks-none g.H.HashFunction.digest g.H.BlockSize.Unsigned.USIZE c.args.key.now c.args.info.now
      g.H.OutputSize.Unsigned.USIZE c.args.output.now;
  len = refl;
}
