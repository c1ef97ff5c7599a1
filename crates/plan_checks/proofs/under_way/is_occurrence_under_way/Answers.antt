use Rattle.std.proofs.Common.{◌≡◌, ◌<◌, refl, sym, ap, ◌∙◌, arith, length, true, false, true≢false, rules}
use Rattle.std.proofs.lemmas.Option.{slice_get_within}
use Rattle.std.specs.FinMap.{entries}
use Rattle.plan_drafts.proofs.RowPlaces.{row_at}
use Rattle.plan_model.specs.Contents.{Contents}
use Rattle.derived_figures.specs.plan_status.proofs.LoadedRows.{row_of}
use Rattle.plan_checks.proofs.Searching.{none_more, under_way_in_plan}
use Rattle.plan_checks.proofs.under_way.is_occurrence_under_way.Goals as goal
use Rattle.plan_checks.specs.Commands.{IsItsUnderWay}

pub loop-place-init : goal.loop-place-init
loop-place-init c = λ k row lt at. absurd (omega (arith, lt))

pub is_its_under_way-requires : goal.is_its_under_way-requires
is_its_under_way-requires c =
    let count = c.operation_count-place-end.ensures.count ∙ ap (λ (Q : Contents). length (entries Q.operations)) c.uncounted.ensures.contents in
    omega (arith, c.loop-place-test.true, count)

pub returns-then-is_its_under_way : goal.returns-then-is_its_under_way
returns-then-is_its_under_way c =
    let yes : c.is_its_under_way.result ≡ true = search rules in
    let count = c.operation_count-place-end.ensures.count ∙ ap (λ (Q : Contents). length (entries Q.operations)) c.uncounted.ensures.contents in
    let within : c.loop-place.place < length (entries c.args.outline.now.operations) = omega (arith, c.loop-place-test.true, count) in
    let row = row_at (entries c.args.outline.now.operations) c.loop-place.place within in
    (λ _. (row.0.0, (c.is_its_under_way.ensures row.0.0 row.0.1 row.1).0 yes), λ _. refl)

pub loop-place-preserved : goal.loop-place-preserved
loop-place-preserved c =
    let P = c.args.outline.now in
    let no : c.is_its_under_way.result ≡ false = search rules in
    none_more (entries P.operations) (λ row. IsItsUnderWay P c.args.occurrence.now row.0) c.loop-place.place c.loop-place.invariant (λ row at h.
    true≢false (sym ((c.is_its_under_way.ensures row.0 row.1 at).1 h) ∙ no))

pub returns : goal.returns
returns c = (
  λ yes. absurd (true≢false (sym yes)),
  λ h.
      let P = c.args.outline.now in
      let count = c.operation_count-place-end.ensures.count ∙ ap (λ (Q : Contents). length (entries Q.operations)) c.uncounted.ensures.contents in
      let op = under_way_in_plan P h.0 h.1.1 in
      let place = row_of P h.0 op.0 op.1 in
      let within = slice_get_within (entries P.operations) place.0 (h.0, op.0) place.1 in
      absurd (c.loop-place.invariant place.0 (h.0, op.0) (omega (arith, within, c.loop-place-test.false, count)) place.1 h.1),
)
