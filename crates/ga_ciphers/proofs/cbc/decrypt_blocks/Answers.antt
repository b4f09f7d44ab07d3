use Rattle.ga_ciphers.proofs.CbcLemmas.{blocks-none, decrypted-more, decrypted-none, last-ended, text-ended, turn-from}
use Rattle.ga_ciphers.proofs.cbc.decrypt_blocks.Goals as goal
use Rattle.std.proofs.Common.{◌≡◌, ◌≤◌, ◌+◌, ap, arith, length, refl}

pub rows-init : goal.rows-init
rows-init g c = blocks-none _ _ _ _ _ c.requires.whole

pub rows-preserved : goal.rows-preserved
rows-preserved g c =
    let width = g.C.BlockSize.Unsigned.USIZE in
    let encrypted = g.C.BlockCipher.encrypted c.args.cipher.now in
    let decrypted = g.C.BlockCipher.decrypted c.args.cipher.now in
    let so_far = c.rows.invariant in
    let made = c.decrypt_at.ensures in
    let turn = turn-from so_far (ap (λ n. c.rows.done + n) c.USIZE-done.ensures) c.rows-test.true made.len
    c.decrypt_at.auto.text made.text in
    let long : length c.args.text.now ≡ length c.rows.text = omega (arith, c.rows.auto.text) in
    decrypted-more width g.met.C.BlockCipher.some encrypted decrypted c.args.vector.now turn long c.decrypt_at.new.vector
    made.vector refl so_far

pub returns : goal.returns
returns g c =
    let width = g.C.BlockSize.Unsigned.USIZE in
    let encrypted = g.C.BlockCipher.encrypted c.args.cipher.now in
    let decrypted = g.C.BlockCipher.decrypted c.args.cipher.now in
    let so_far = c.rows.invariant in
    let end : length c.rows.text ≤ c.rows.done = omega (arith, c.rows-test.false) in
    let long : length c.args.text.now ≡ length c.rows.text = omega (arith, c.rows.auto.text) in
    record {
      text = text-ended so_far end (decrypted-none width g.met.C.BlockCipher.some encrypted decrypted c.rows.vector);
      vector = last-ended so_far end long;
    }
