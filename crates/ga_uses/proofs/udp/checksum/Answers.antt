use Rattle.ga_uses.proofs.UdpLemmas.{summed}
use Rattle.ga_uses.proofs.udp.checksum.Goals as goal
use Rattle.ga_uses.specs.Udp.{complement_of, sum_with_carry}
use Rattle.generic_array.specs.Views.{items_of_view, length-items_of_view}
use Rattle.std.proofs.Common.{◌∙◌, ap, refl, rules}

-- the closure adds a word, and the pieces one after the other are the bytes that are summed
pub returns : goal.returns
returns c =
    let acts = c.fold-header.ensures.acts sum_with_carry (λ a item b g called. search rules) in
    let from = c.args.source_address in
    let to = c.args.destination_address in
    c.complement.ensures
    ∙ ap complement_of (rw (c.with_words.ensures, acts, c.with_words-addresses.ensures, c.with_words-first.ensures)
    (rw (c.from_array-between.ensures, c.into_slice.ensures.items, c.into_slice-2.ensures.items)
    (summed (items_of_view from) (items_of_view to) c.args.payload.now _ _ _ (length-items_of_view from)
    (length-items_of_view to) refl)))
