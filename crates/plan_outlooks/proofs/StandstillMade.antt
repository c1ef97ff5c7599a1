-- What is told of an operation that doesn't begin, put together.
use Rattle.std.proofs.Common.{◌≡◌, sym, subst, Option, Some}
use Rattle.std.specs.FinMap.{get}
use Rattle.plan_basics.specs.declared.keys.OpKey.{OpKey}
use Rattle.plan_model.specs.Contents.{Contents, Has, HasAttribute, Operation}
use Rattle.plan_model.specs.Starts.{IsLatestStart}
use Rattle.plan_model.specs.Status.{HasStatus}
use Rattle.plan_reasons.specs.Whys.{IsFirstReason}
use Rattle.plan_outlooks.specs.Forecasts.{Forecast}
use Rattle.plan_outlooks.specs.Lent.{IsLent}
use Rattle.plan_reasons.specs.declared.reasons.Reason.{Reason}
use Rattle.plan_outlooks.specs.Standstills.{IsAsked, IsStandstill, standing_by}
use Rattle.plan_outlooks.specs.declared.refs.ForecastRefs.{ForecastRefs}
use Rattle.plan_outlooks.specs.declared.rows.Standstill.{Standstill}

module _ (F : Forecast) (x : ForecastRefs) (lent : IsLent F x) (o : OpKey) (r : Standstill) (key : r.key ≡ o) where
  -- what is so of o in the last plan that is lent is so of the row's operation in the forecast's last one
  to : (C : Contents → OpKey → Type 0) → C x.last.now o → C F.last.plan.contents r.key
  to C h = subst (C F.last.plan.contents) (sym key) (subst (λ (P : Contents). C P o) lent.last h)

  pub standstill_made : (op : Operation) → get x.last.now.operations o ≡ Some op → HasStatus x.last.now o r.status → IsAsked x.last.now op x.to r.at → r.workstation ≡ op.workstation → HasAttribute x.last.now op.workstation r.attribute → (found : Option Reason) → IsFirstReason x.last.now o r.at found → r.standing ≡ standing_by op.mark found → IsLatestStart x.plan.now o r.latest → IsStandstill F r
  standstill_made op there status asked workstation attribute found reason standing latest = record {
    status = to (λ P k. HasStatus P k r.status) status;
    asked = subst (λ m. Has F.last.plan.contents r.key (λ z. IsAsked F.last.plan.contents z m r.at)) lent.to (to (λ P k. Has P k (λ z. IsAsked P z x.to r.at)) (op, there, asked));
    op = op;
    is_in_plan = to (λ P k. get P.operations k ≡ Some op) there;
    workstation = (workstation, to (λ P k. HasAttribute P op.workstation r.attribute) attribute);
    found = found;
    reason = to (λ P k. IsFirstReason P k r.at found) reason;
    standing = standing;
    latest = subst (λ k. IsLatestStart F.plan.contents k r.latest) (sym key) (subst (λ (P : Contents). IsLatestStart P o r.latest) lent.plan latest);
  }
