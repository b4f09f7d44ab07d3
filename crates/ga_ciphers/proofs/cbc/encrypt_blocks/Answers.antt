use Rattle.ga_ciphers.proofs.CbcLemmas.{back-ended, back-more, blocks-none, encrypted-more, encrypted-none, last-ended}
use Rattle.ga_ciphers.proofs.CbcLemmas.{text-ended, turn-from}
use Rattle.ga_ciphers.proofs.cbc.encrypt_blocks.Goals as goal
use Rattle.std.proofs.Common.{◌≡◌, ◌≤◌, ◌+◌, ap, arith, length, refl}

pub rows-init : goal.rows-init
rows-init g c = record { so_far = blocks-none _ _ _ _ _ c.requires.whole; back = λ rest. refl }

pub rows-preserved : goal.rows-preserved
rows-preserved g c =
    let width = g.C.BlockSize.Unsigned.USIZE in
    let encrypted = g.C.BlockCipher.encrypted c.args.cipher.now in
    let decrypted = g.C.BlockCipher.decrypted c.args.cipher.now in
    let so_far = c.rows.invariant.so_far in
    let made = c.encrypt_at.ensures in
    let turn = turn-from so_far (ap (λ n. c.rows.done + n) c.USIZE-done.ensures) c.rows-test.true made.len
    c.encrypt_at.auto.text made.text in
    record {
      so_far = encrypted-more width g.met.C.BlockCipher.some encrypted decrypted c.args.vector.now turn made.vector so_far;
      back = back-more width g.met.C.BlockCipher.some encrypted decrypted c.args.vector.now turn made.back
          c.rows.invariant.back;
    }

pub returns : goal.returns
returns g c =
    let width = g.C.BlockSize.Unsigned.USIZE in
    let encrypted = g.C.BlockCipher.encrypted c.args.cipher.now in
    let decrypted = g.C.BlockCipher.decrypted c.args.cipher.now in
    let some = g.met.C.BlockCipher.some in
    let so_far = c.rows.invariant.so_far in
    let end : length c.rows.text ≤ c.rows.done = omega (arith, c.rows-test.false) in
    let ended : c.rows.done ≡ length c.rows.text = omega (arith, so_far.within) in
    let long : length c.args.text.now ≡ length c.rows.text = omega (arith, c.rows.auto.text) in
    record {
      text = text-ended so_far end (encrypted-none width some encrypted decrypted c.rows.vector);
      vector = last-ended so_far end refl;
      back = back-ended width some encrypted decrypted c.args.vector.now c.rows.vector c.args.text.now c.rows.text c.rows.done
          ended long c.rows.invariant.back;
    }
