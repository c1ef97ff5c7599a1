use Rattle.std.proofs.Common.{◌≡◌, sym, ◌∙◌, ap, subst, arith, ℕ, List, Option, Some, length, slice_get}
use Rattle.std.proofs.lemmas.List.{take_all}
use Rattle.std.proofs.lemmas.Option.{slice_get-get_or}
use Rattle.std.specs.FinMap.{entries}
use Rattle.plan_model.specs.Contents.{Contents}
use Rattle.plan_forecast.specs.Ahead.{start_by}
use Rattle.forecasting.specs.Known.{since_in}
use Rattle.forecasting.specs.InMemory.{times_by}
use Rattle.forecasting.proofs.First.{known_next}
use Rattle.forecasting.proofs.beginning.known_times_in.Goals as goal

pub loop-place-init : goal.loop-place-init
loop-place-init c = c.in_ok-times.ensures.items

pub loop-place-preserved : goal.loop-place-preserved
loop-place-preserved c =
    let P = c.args.loaded.now in
    let i = c.loop-place.place in
    let found = c.operations-rows.result.now in
    let rows_are : found ≡ entries P.operations = c.operations-rows.ensures.rows ∙ ap (λ (Q : Contents). entries Q.operations) c.contents.ensures.contents in
    let row = c.index-rows-place.result in
    let at : slice_get (entries P.operations) i ≡ Some row = subst (λ xs. slice_get xs i ≡ Some row) rows_are (slice_get-get_or found i row c.loop-place-test.true ∙ ap Some (sym c.index-rows-place.is)) in
    ◌∙◌ {A = List (Option ℕ)} c.in_ok-push.ensures.items (known_next (since_in c.args.known.now) (entries P.operations) i row c.loop-place.times.items c.counted_start.result at (c.counted_start.ensures ∙ ap (start_by row.1.mark row.1.not_before) c.start_of.ensures) c.loop-place.invariant)

pub returns : goal.returns
returns c =
    let P = c.args.loaded.now in
    let rows_are = c.operations-rows.ensures.rows ∙ ap (λ (Q : Contents). entries Q.operations) c.contents.ensures.contents in
    let past = c.loop-place-test.false in
    let many = ap length rows_are in
    c.loop-place.invariant ∙ ap (times_by (since_in c.args.known.now)) (take_all c.loop-place.place (entries P.operations) (omega (arith, past, many)))
