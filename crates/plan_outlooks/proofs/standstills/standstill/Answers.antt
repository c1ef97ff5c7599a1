use Rattle.std.proofs.Common.{rules, ◌≡◌, sym, ◌∙◌, ap, subst, arith, true≢false, w64, FitsSigned, to_z, of_z}
use Rattle.std.proofs.lemmas.Int.{ints}
use Rattle.std.specs.FinMap.{entries}
use Rattle.plan_basics.specs.declared.keys.OpKey.{OpKey}
use Rattle.plan_model.specs.Starts.{IsLatestStart}
use Rattle.plan_reasons.specs.Places.{IsAt}
use Rattle.plan_reasons.specs.Whys.{IsFirstReason}
use Rattle.plan_reasons.specs.plan_drafts.proofs.RowPlaces.{row_at}
use Rattle.plan_model.specs.Contents.{Operation}
use Rattle.plan_outlooks.specs.Standstills.{standing_by}
use Rattle.plan_outlooks.proofs.OperationRows.{at_last, at_plan}
use Rattle.plan_outlooks.proofs.StandstillMade.{standstill_made}
use Rattle.plan_outlooks.proofs.standstills.standstill.Goals as goal

pub returns-then-not-never_begins-clause-told : goal.returns-then-not-never_begins-clause-told
returns-then-not-never_begins-clause-told c = λ F o lent at never. true≢false (sym ((c.never_begins.ensures F o lent at).1 never) ∙ c.if-not-never_begins.true)

pub asked_at-at-requires : goal.asked_at-at-requires
asked_at-at-requires c =
    let x = c.args.refs.now in
    let (F, lent, within) = c.requires in
    let r = row_at (entries F.plan.contents.operations) c.args.place within in
    let o = r.0.0 in
    let row = at_last F x lent c.args.place o (r.0.1, r.1) in
    (o, (c.reported_at-reported.ensures o row.0 row.1).operation)

pub first_reason-requires : goal.first_reason-requires
first_reason-requires c =
    let x = c.args.refs.now in
    let (F, lent, within) = c.requires in
    let r = row_at (entries F.plan.contents.operations) c.args.place within in
    let o = r.0.0 in
    let row = at_last F x lent c.args.place o (r.0.1, r.1) in
    subst (IsAt x.last.now c.args.place) (sym (c.key_at-key.ensures o row.0 row.1)) row

pub returns-clause-told : goal.returns-clause-told
returns-clause-told c = λ F o lent at.
    let x = c.args.refs.now in
    let row = at_last F x lent c.args.place o at in
    let key = c.key_at-key.ensures o row.0 row.1 in
    let is = c.reported_at-reported.ensures o row.0 row.1 in
    let fits : FitsSigned w64 c.latest_at.result = search rules in
    let back : to_z w64 (of_z w64 c.latest_at.result) ≡ c.latest_at.result = omega (arith, ints, fits) in
    let latest = subst (IsLatestStart x.plan.now o) (sym back) (c.latest_at.ensures o at.0 (at_plan F x lent c.args.place o at)) in (
      key,
      (c.never_begins.ensures F o lent at).0 c.if-not-never_begins.false,
      standstill_made F x lent o _ key c.reported_at-reported.result.operation.now is.operation is.status c.asked_at-at.ensures (ap (λ (z : Operation). z.workstation) c.operation.view_is) is.attribute c.in_ok-reason.reason
          (subst (λ (k : OpKey). IsFirstReason x.last.now k c.asked_at-at.result c.in_ok-reason.reason) key c.in_ok-reason.ensures.reason) (c.standing_by.ensures ∙ ap (λ (z : Operation). standing_by z.mark c.in_ok-reason.reason) c.operation.view_is) latest,
    )
