use Rattle.std.proofs.Common.{◌≡◌, sym, subst, Decides, Some, slice_get}
use Rattle.std.specs.FinMap.{entries}
use Rattle.plan_model.specs.Contents.{Contents}
use Rattle.derived_figures.specs.Reports.{IsReported}
use Rattle.plan_forecast.specs.Ahead.{MayBegin}
use Rattle.forecasting.proofs.starting.begins.Goals as goal

pub may_begin-requires : goal.may_begin-requires
may_begin-requires c =
    let k = c.args.key.now in
    let found = c.in-Some.ensures.found in
    let at = subst (λ (Q : Contents). slice_get (entries Q.operations) c.in-Some.place ≡ Some (k, found.0)) c.contents.ensures.contents found.1 in
    subst (λ (Q : Contents). IsReported Q k c.reported_at.result) (sym c.outline.ensures) (c.reported_at.ensures k found.0 at)

pub returns : goal.returns
returns c = subst (λ (Q : Contents). Decides c.may_begin.result (MayBegin c.args.attribute Q c.args.key.now c.args.at)) c.outline.ensures c.may_begin.ensures
