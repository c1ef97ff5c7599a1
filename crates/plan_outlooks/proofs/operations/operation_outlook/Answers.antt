use Rattle.std.proofs.Common.{rules, ◌≡◌, arith, w64, FitsSigned, to_z, of_z, refl, sym, ◌∙◌, ap, subst, get_or, false, true≢false}
use Rattle.std.specs.Prelude.{Decides}
use Rattle.std.proofs.lemmas.Int.{ints}
use Rattle.plan_forecast.specs.Ahead.{IsGoing}
use Rattle.plan_model.specs.Contents.{Contents, Operation}
use Rattle.plan_model.specs.Starts.{IsLatestStart}
use Rattle.std.proofs.lemmas.Option.{get_or_from_slice_get}
use Rattle.plan_reasons.specs.Reasons.{beginning_by}
use Rattle.plan_outlooks.specs.Forecasts.{IsLateBy, IsSinceUnknown}
use Rattle.plan_outlooks.specs.Overruns.{IsOverBy, IsTaken, planned_end}
use Rattle.plan_outlooks.proofs.UnknownTold.{twice}
use Rattle.plan_outlooks.proofs.OperationMade.{operation_made}
use Rattle.plan_outlooks.proofs.OperationRows.{at_plan, done_at}
use Rattle.plan_outlooks.proofs.operations.operation_outlook.Goals as goal

pub returns-then-not-begins : goal.returns-then-not-begins
returns-then-not-begins c = λ F o lent at begins. true≢false (sym ((c.begins.ensures F o lent at).1 begins) ∙ c.if-not-begins.true)

pub returns : goal.returns
returns c = λ F o lent at.
    let x = c.args.refs.now in
    let row = at_plan F x lent c.args.place o at in
    let rep = c.reported_at-reported.result in
    let is = c.reported_at-reported.ensures o at.0 row in
    let key = c.key_at.ensures o at.0 row in
    let fits : FitsSigned w64 c.latest_at-latest.result = search rules in
    let back : to_z w64 (of_z w64 c.latest_at-latest.result) ≡ c.latest_at-latest.result = omega (arith, ints, fits) in
    let told = lent.taken c.args.place o at.0 at.1 in
    let taken : Decides (get_or x.taken.now c.args.place false) (IsTaken F.plan.contents F.known F.from o) = subst (λ b. Decides b (IsTaken F.plan.contents F.known F.from o)) (sym (get_or_from_slice_get x.taken.now c.args.place told.0 false told.1)) told.2 in
    let going = subst (λ (P : Contents). Decides c.is_going-is_going.result (IsGoing P o)) lent.plan (c.is_going-is_going.ensures x.plan.now o c.read_for_proof.ensures.valid is) in (
      key,
      (c.begins.ensures F o lent at).0 c.if-not-begins.false,
      operation_made F x lent o rep is _ key (ap (λ (z : Operation). z.workstation) c.operation.view_is) refl refl going (c.beginning_of-begin.ensures F o lent at) (twice c.is_since_unknown-is_known.result (IsSinceUnknown F o) (c.is_since_unknown-is_known.ensures F o lent at))
          (done_at F x lent c.args.place o c.time_at.result at c.time_at.ensures) (subst (IsLatestStart x.plan.now o) (sym back) (c.latest_at-latest.ensures o at.0 row))
          (subst (λ z. IsLateBy z (to_z w64 (of_z w64 c.latest_at-latest.result)) c.late_by-late.result) c.if_known-begun.ensures c.late_by-late.ensures)
          (c.beginning_by.ensures ∙ ap (λ (z : Operation). beginning_by z.mark) c.operation.view_is) (c.since_of-2.ensures F o lent at) (subst (λ z. IsOverBy (planned_end rep.operation.now z) x.from c.over_by-over.result) (c.since_of.ensures F o lent at ∙ sym (c.since_of-2.ensures F o lent at)) c.over_by-over.ensures) taken,
    )
