use Rattle.ga_hashes.proofs.hkdf.expand.Given as goal
use Rattle.ga_hashes.specs.Hkdf.{BeginsWithBlocks}
use Rattle.std.proofs.Common.{◌≡◌, length}

-- the blocks so far stand in the output, whose length stays
abbrev pub invariant-loop-number : goal.invariant-loop-number
invariant-loop-number g l = record {
  begun : BeginsWithBlocks g.H.HashFunction.digest g.H.BlockSize.Unsigned.USIZE l.key l.info
      g.H.OutputSize.Unsigned.USIZE l.number l.output;
  len : length l.output ≡ length l.fn.output;
}
