use Rattle.ga_ciphers.proofs.CbcLemmas.{BlocksDone}
use Rattle.ga_ciphers.proofs.cbc.decrypt_blocks.Given as goal
use Rattle.ga_ciphers.specs.Cbc.{cbc_decrypted}
use Rattle.std.proofs.Common.{◌-◌, length}

-- the blocks before the place are decrypted
abbrev pub invariant-rows : goal.invariant-rows
invariant-rows g l =
    let width = g.C.BlockSize.Unsigned.USIZE in
    BlocksDone width (cbc_decrypted (g.C.BlockCipher.decrypted l.fn.cipher) width) l.fn.vector l.fn.text l.vector l.text
    l.fn.text l.done

-- the bytes that are left
abbrev pub decreases-rows : goal.decreases-rows
decreases-rows g l = length l.fn.text - l.done
