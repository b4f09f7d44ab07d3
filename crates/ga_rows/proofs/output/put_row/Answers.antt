use Rattle.ga_rows.proofs.output.put_row.Goals as goal
use Rattle.ga_rows.proofs.output.put_row.Goals.{in-Dec, in-Hex+in_ok-write_hex-in-Hex, in-Back, in-Sum}
use Rattle.generic_array.proofs.HexLemmas.{length-hex_digits}
use Rattle.std.proofs.Common.{false, ap, arith, length, length-append, rules}

-- a line is shorter than the room that was made for it
pub push-requires : goal.push-requires
push-requires g c = elim c.match-mode.branch [
  | in-Dec w ↦ search rules
  | in-Hex+in_ok-write_hex-in-Hex w ↦
      let written = w.as_slice-in-Hex.result.now in
      let long = simp length-append at (ap length w.in_ok-write_hex-in-Hex.ensures.text) in
      let digits = length-hex_digits false written in
      omega (arith, w.as_slice-in-Hex.ensures.len, c.requires.few, c.requires.room, ap length w.piece-is)
  | in-Back w ↦ search rules
  | in-Sum w ↦ search rules
]
