use Rattle.std.proofs.Common.{◌≡◌, ◌++◌, drop, map, take}
use Rattle.ga_ciphers.proofs.block_cipher.BlockCipher.encrypt_blocks.Given as given

-- the blocks that the loop has passed are encrypted
abbrev pub invariant-loop-block : given.invariant-loop-block
invariant-loop-block g l = l.blocks ≡ map (g.Self.BlockCipher.encrypted l.self) (take l.block-index l.initial.blocks)
    ++ drop l.block-index l.initial.blocks
