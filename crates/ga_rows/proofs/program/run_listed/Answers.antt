use Rattle.ga_rows.proofs.program.run_listed.Goals as goal
use Rattle.ga_rows.proofs.program.run_listed.Goals.{in-Ok+in-Ok-words_after_name, in-Ok+in-Err-words_after_name, in-Err}
use Rattle.ga_rows.specs.Status.{exit_status}
use Rattle.ga_rows.specs.declared.status.Status.TheVariants.{Memory}
use Rattle.std.proofs.Common.{ap, inl, inr, refl, rules, ◌∙◌}

pub returns-clause-ends : goal.returns-clause-ends
returns-clause-ends g c =
    let told = c.from.ensures ∙ c.code.ensures in
    elim c.match-listed.branch [
      | in-Ok+in-Ok-words_after_name w ↦
          let all = w.in-Ok-words_after_name.ensures.ok in
          let ends = rw w.as_slice.ensures.value at w.run.ensures in (
            w.run.result,
            told ∙ ap exit_status w.status-is,
            inl (rw w.in-Ok.is (all.0, all.1, all.2, rw (← all.3) (rw w.r-is (rw w.w-is ends)))),
          )
      | in-Ok+in-Err-words_after_name w ↦ (
        Memory,
        told ∙ ap exit_status (w.status-is ∙ w.in-Err-words_after_name.ensures.err),
        inr (record {
          untouched = (w.r-is, w.w-is);
          unkept = rw w.in-Ok.is refl;
          memory = rw w.in-Ok.is (search rules);
          fault = rw w.in-Ok.is (search rules);
        }),
      )
      | in-Err w ↦
          let failed = w.from_listing-status.ensures in (
            w.from_listing-status.result,
            told ∙ ap exit_status w.status-is,
            inr (record {
              untouched = (w.r-is, w.w-is);
              unkept = rw w.in-Err.is (search rules);
              memory = rw w.in-Err.is (rw (← w.kind.ensures) failed.memory);
              fault = rw w.in-Err.is (rw (← w.kind.ensures) failed.fault);
            }),
          )
    ]
