use Rattle.ga_ciphers.proofs.CbcLemmas.{BlocksDone}
use Rattle.ga_ciphers.proofs.cbc.encrypt_blocks.Given as goal
use Rattle.ga_ciphers.specs.Cbc.{cbc_decrypted, cbc_encrypted}
use Rattle.std.proofs.Common.{◌≡◌, ◌-◌, ◌++◌, List, ℕ, length, take}

-- the blocks before the place are encrypted, and can be decrypted
abbrev pub invariant-rows : goal.invariant-rows
invariant-rows g l =
    let width = g.C.BlockSize.Unsigned.USIZE in
    let decrypted = cbc_decrypted (g.C.BlockCipher.decrypted l.fn.cipher) width in
    record {
      so_far : BlocksDone width (cbc_encrypted (g.C.BlockCipher.encrypted l.fn.cipher) width) l.fn.vector l.fn.text
          l.vector l.text l.text l.done;
      back : (rest : List ℕ) → decrypted l.fn.vector (take l.done l.text ++ rest)
          ≡ take l.done l.fn.text ++ decrypted l.vector rest;
    }

-- the bytes that are left
abbrev pub decreases-rows : goal.decreases-rows
decreases-rows g l = length l.fn.text - l.done
