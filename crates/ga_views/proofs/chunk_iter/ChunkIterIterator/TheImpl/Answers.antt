use Rattle.ga_views.proofs.chunk_iter.ChunkIterIterator.TheImpl.Goals as goal
use Rattle.std.proofs.Common.{ap, arith}

-- the number of rows that are left bounds itself from both sides
pub size_hint-tells : goal.size_hint-tells
size_hint-tells g x c = record {
  lower = λ _. omega (arith, ap (λ hint. hint.0) c.ensures);
  upper =
      rw c.ensures (tt, omega arith);
}
