use Rattle.ga_core.proofs.FillLemmas.{FillFalliblyRuns-from_fill, fill-ends}
use Rattle.ga_core.proofs.array.GenericArray.try_from_fallible_iter_ref.Given as given
use Rattle.ga_core.proofs.array.GenericArray.try_from_fallible_iter_ref.Goals as goal
use Rattle.ga_core.specs.Fill.{FillsFallibly}
use Rattle.ga_views.specs.declared.length_error.LengthError.{LengthError}
use Rattle.std.proofs.Common.{Err, List, Ok, Result, Some, arith, map, refl}
use Rattle.std.proofs.lemmas.List.{length-map}
use Rattle.std.proofs.lemmas.Result.{err_from_is_err_and}

-- what is returned
abbrev Made : given.Over → Type 0
Made g = Result (Result (List g.row.T.Denot) g.row.E.Denot) LengthError

pub returns : goal.returns
returns g c =
    let next = g.I.Iterator.next_gives in
    let n = g.N.Unsigned.USIZE in
    let taken = c.in_default.ensures.taken in
    let made : Made g = Ok (Ok c.in_ok-finish_at_end.field-0) in
    let ends = fill-ends next (map Ok) (λ items. length-map items Ok) c.args.items.now c.try_extend.new.items
    c.finish_at_end.new.items n taken.0 c.new-builder.ensures taken.1 {E = LengthError} (Ok c.in_ok-finish_at_end.field-0) taken.2
    c.in_ok-finish_at_end.ensures.ok tt in
    let fill : FillsFallibly next c.args.items.now n made c.finish_at_end.new.items =
    (taken.0, ends.0, ends.1, ends.2) in
    record { fill = fill; runs = FillFalliblyRuns-from_fill next c.args.items.now n made _ fill; can_on = tt }

pub returns-in-Err : goal.returns-in-Err
returns-in-Err g c =
    let n = g.N.Unsigned.USIZE in
    let taken = c.in-Err.ensures.taken in
    let made : Made g = Ok (Err c.in-Err.error) in
    let fill : FillsFallibly g.I.Iterator.next_gives c.args.items.now n made c.try_extend.new.items =
    (taken.0, Some (Err c.in-Err.error), taken.2.0, (refl, omega (arith, taken.2.1))) in
    record {
      fill = fill;
      runs = FillFalliblyRuns-from_fill g.I.Iterator.next_gives c.args.items.now n made _ fill;
      can_on = c.in-Err.ensures.can_on;
    }

pub returns-in_err-finish_at_end : goal.returns-in_err-finish_at_end
returns-in_err-finish_at_end g c =
    let next = g.I.Iterator.next_gives in
    let n = g.N.Unsigned.USIZE in
    let taken = c.in_default.ensures.taken in
    let failed = err_from_is_err_and c.from_residual.result c.from_residual.ensures.1 in
    let made : Made g = Err failed.0 in
    let ends = fill-ends next (map Ok) (λ items. length-map items Ok) c.args.items.now c.try_extend.new.items
    c.finish_at_end.new.items n taken.0 c.new-builder.ensures taken.1 (Err failed.0) taken.2 tt
    c.in_err-finish_at_end.ensures.err in
    let fill : FillsFallibly next c.args.items.now n made c.finish_at_end.new.items =
    (taken.0, ends.0, ends.1, ends.2) in
    rw failed.1 record { fill = fill; runs = FillFalliblyRuns-from_fill next c.args.items.now n made _ fill; can_on = tt }
