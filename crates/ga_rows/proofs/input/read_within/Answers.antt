use Rattle.ga_rows.proofs.input.read_within.Goals as goal
use Rattle.ga_rows.proofs.input.read_within.Goals.{in-Ok+in_ok-append-in-Ok, in-Err+in_ok-after_failed_read-in-Err}
use Rattle.std.proofs.Common.{append-nil, ap, rules, sym, take, ◌≡◌, ◌++◌, ◌∙◌}
use Rattle.std.proofs.KnownBytes.{Consumes-kept, Consumes-trans, Consumes-whole}

-- what a read gave is behind what was kept, and a read that was interrupted gave nothing
pub loop-try-preserved : goal.loop-try-preserved
loop-try-preserved g c =
    let before = g.R.Read.remaining c.args.r.now in
    let now = g.R.Read.remaining c.read.new.self in
    elim c.match-read.branch [
      | in-Ok+in_ok-append-in-Ok w ↦ rw (w.input-is, w.in_ok-append-in-Ok.ensures.ok)
          (Consumes-trans before _ now _ _ c.loop-try.invariant w.in-Ok.ensures.bytes.0)
      | in-Err+in_ok-after_failed_read-in-Err w ↦
          rw w.input-is (Consumes-kept before _ now _ c.loop-try.invariant w.in-Err.ensures.bytes)
    ]

-- all was read where a read gave no more
pub returns-in-Ok-eq0-clause-bytes : goal.returns-in-Ok-eq0-clause-bytes
returns-in-Ok-eq0-clause-bytes g c =
    let items = c.loop-try.input.items in
    Consumes-whole _ _ _ (λ bytes. items ≡ bytes)
    (Consumes-trans _ _ _ items _ c.loop-try.invariant c.in-Ok-eq0.ensures.bytes.0) (search rules)
    (sym (ap (λ n. items ++ take n c.read.new.buf) c.in-Ok-eq0.field-0-test ∙ append-nil items))
