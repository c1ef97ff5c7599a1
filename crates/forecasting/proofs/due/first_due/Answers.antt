use Rattle.std.proofs.Common.{◌≡◌, ◌∙◌, ap, subst, arith, get_or, slice_get, length, Some}
use Rattle.std.proofs.lemmas.Option.{slice_get-get_or}
use Rattle.std.specs.FinMap.{entries}
use Rattle.plan_model.specs.Contents.{Contents}
use Rattle.forecasting.proofs.Dues.{least_due, none_due}
use Rattle.forecasting.proofs.due.first_due.Goals as goal

pub returns-in-None : goal.returns-in-None
returns-in-None c = λ s same times. none_due s c.args.loaded.now same c.args.at c.args.going.now c.requires.going (c.in-None.ensures.least s same times)

pub returns-in-Some : goal.returns-in-Some
returns-in-Some c =
    let P = c.args.loaded.now in
    let i = c.in-Some.place in
    let found = c.operations.result.now in
    let rows_are : found ≡ entries P.operations = c.operations.ensures.rows ∙ ap (λ (Q : Contents). entries Q.operations) c.contents.ensures.contents in
    let row = get_or found i c.index-operations-place.result in
    let less = c.in-Some.ensures.within in
    let many = ap length rows_are in
    let at : slice_get (entries P.operations) i ≡ Some row = subst (λ xs. slice_get xs i ≡ Some row) rows_are (slice_get-get_or found i c.index-operations-place.result (omega (arith, less, many))) in
    λ s same times. least_due s P same c.args.at c.args.going.now c.requires.going i row.0 row.1 at (c.in-Some.ensures.least s same times)
