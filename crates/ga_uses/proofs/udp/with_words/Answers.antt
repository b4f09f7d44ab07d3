use Rattle.ga_uses.proofs.UdpLemmas.{total-none, total-one}
use Rattle.ga_uses.proofs.udp.with_words.Goals as goal
use Rattle.generic_array.specs.Views.{items_of_chunks}
use Rattle.std.proofs.Common.{◌∙◌}

-- a byte is left, and counts as the high one of a word
pub returns-in-len1 : goal.returns-in-len1
returns-in-len1 c =
    let cut = c.chunks_from_slice.ensures in
    c.with_carry.ensures ∙ total-one c.args.bytes.now (items_of_chunks c.chunks_from_slice.result.0)
    c.chunks_from_slice.result.1.now cut.rows cut.rest c.args.sum c.with_rows-total.result c.with_rows-total.ensures
    c.in-len1.len_at_least c.in-len1.len_below

-- the rows have all bytes
pub returns-in_default : goal.returns-in_default
returns-in_default c =
    let cut = c.chunks_from_slice.ensures in
    total-none c.args.bytes.now (items_of_chunks c.chunks_from_slice.result.0) c.chunks_from_slice.result.1.now cut.rows
    cut.rest c.args.sum c.with_rows-total.result c.with_rows-total.ensures c.in_default.len_below
