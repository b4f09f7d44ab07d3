use Rattle.ga_views.proofs.CutLemmas.{taken-some}
use Rattle.ga_views.proofs.HexLemmas.{not_empty}
use Rattle.ga_views.proofs.hex_text.write_hex.Goals as goal
use Rattle.std.proofs.Common.{◌++◌}
use Rattle.std.proofs.KnownBytes.{Appends-trans}

-- a writer fails only where there are digits to write
pub returns-in_err-write_all-clause-empty : goal.returns-in_err-write_all-clause-empty
returns-in_err-write_all-clause-empty g c = λ none.
    let next = c.in-Some.ensures.some in
    absurd (not_empty _ _ _ _ _ c.loop-text.invariant.2 next.1 next.0 none)

-- one text more is written
pub loop-text-preserved : goal.loop-text-preserved
loop-text-preserved g c =
    let so_far = c.loop-text.invariant in
    let contents = g.W.Write.contents in (
      so_far.0 ++ c.in-Some.text.now,
      Appends-trans (contents c.args.w.now) (contents c.loop-text.w) (contents c.write_all.new.self) so_far.0 _ so_far.1
          c.in_ok-write_all.ensures.bytes,
      taken-some _ so_far.0 _ _ _ so_far.2 c.in-Some.ensures.some.1,
    )
