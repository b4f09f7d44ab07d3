use Rattle.ga_ciphers.proofs.ChaCha20Lemmas.{bytes-from_rows}
use Rattle.ga_ciphers.proofs.chacha20.bytes_of.Goals as goal
use Rattle.std.proofs.Common.{◌≡◌, map, rules}
use Rattle.std.specs.Int.{to_le_bytes, w32}

-- each row is the bytes of a word
pub returns : goal.returns
returns c =
    let rows : c.map_inline-rows.result ≡ map (to_le_bytes w32) c.args.words = search rules in
    bytes-from_rows _ c.args.words _ rows c.flatten.ensures.joined
