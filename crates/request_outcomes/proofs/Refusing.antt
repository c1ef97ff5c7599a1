-- The answers to a request, by what stands in its way.
use Rattle.std.proofs.Common.{◌≡◌, refl, sym, subst, ◌∙◌, arith, ℕ, ◌<◌, true, false, true≢false, pos, ◌≤ℤ◌, Option, Some, None, is_some}
use Rattle.plan_basics.specs.Minutes.{IsMoment}
use Rattle.plan_basics.proofs.LeastRefusals.{least_of_all, none_of_all}
use Rattle.plan_basics.specs.Refusals.{number_of, IsLeastRefusal, NoneRefuses, from_on}
use Rattle.plan_basics.specs.declared.Refusal.{Refusal}
use Rattle.plan_basics.specs.declared.Refusal.TheVariants as refusal
use Rattle.plan_model.specs.Contents.{Contents}
use Rattle.plan_model.specs.Plan.{Plan}
use Rattle.plan_records.specs.Acceptance.{IsLoad, MayBeAccepted, MayBeDone, NeedsPlan}
use Rattle.plan_records.specs.Answer.{refused}
use Rattle.plan_records.specs.Step.{Step}
use Rattle.plan_records.specs.declared.Request.{Request}
use Rattle.plan_records.specs.declared.What.{What}
use Rattle.plan_records.specs.declared.What.TheVariants as what
use Rattle.small_requests.specs.plan_checks.specs.Loads.{MayBeLoadedWhere}
use Rattle.small_requests.specs.plan_laws.proofs.Running.{request_passes}
use Rattle.plan_model.specs.Plan.{plan_held}
use Rattle.request_outcomes.specs.Requested.{MayBeMadeAt}

-- ---- but for its moment

module _ (P : Plan) (m : ℕ) (w : What) (loaded : NeedsPlan w → P.loaded ≡ true) (not_loaded : IsLoad w → P.loaded ≡ false) where
  by_plan : (r : Refusal) → MayBeDone P.contents m w r → MayBeMadeAt P m w r
  by_plan refusal.Past may counts = absurd (omega (arith, counts))
  by_plan refusal.MomentRange may counts = absurd (omega (arith, counts))
  by_plan refusal.NotLoaded may counts = loaded
  by_plan refusal.Loaded may counts = not_loaded
  by_plan r may counts = may

  not_by_plan : (r : Refusal) → ¬ MayBeDone P.contents m w r → ¬ MayBeMadeAt P m w r
  not_by_plan refusal.Past never made = never (request_passes P.contents m w).0
  not_by_plan refusal.MomentRange never made = never (request_passes P.contents m w).1
  not_by_plan refusal.NotLoaded never made = never (request_passes P.contents m w).2
  not_by_plan refusal.Loaded never made = never (request_passes P.contents m w).6
  not_by_plan r never made = never (made (omega arith))

  -- where nothing of the plan stands in its way
  pub is_free : NoneRefuses (MayBeDone P.contents m w) → NoneRefuses (MayBeMadeAt P m w)
  is_free may r = by_plan r (may r)

  -- where the plan does
  pub is_stopped : (r : Refusal) → IsLeastRefusal (MayBeDone P.contents m w) r → IsLeastRefusal (MayBeMadeAt P m w) r
  is_stopped r least = (not_by_plan r least.0, λ lower less. by_plan lower (least.1 lower less))

-- a load's own lines
module _ (P : Plan) (m : ℕ) (draft : Option Contents) where
  by_load : (r : Refusal) → MayBeLoadedWhere P.loaded draft r → MayBeMadeAt P m (what.Load draft) r
  by_load refusal.Past may counts = absurd (omega (arith, counts))
  by_load refusal.MomentRange may counts = absurd (omega (arith, counts))
  by_load refusal.NotLoaded may counts = λ needs. absurd needs
  by_load refusal.Loaded may counts = λ load. may
  by_load r may counts = may

  not_by_load : (r : Refusal) → ¬ MayBeLoadedWhere P.loaded draft r → ¬ MayBeMadeAt P m (what.Load draft) r
  not_by_load refusal.Past never made = never tt
  not_by_load refusal.MomentRange never made = never tt
  not_by_load refusal.NotLoaded never made = never tt
  not_by_load refusal.Loaded never made = never (made (omega arith) tt)
  not_by_load r never made = never (made (omega arith))

  pub load_is_free : NoneRefuses (MayBeLoadedWhere P.loaded draft) → NoneRefuses (MayBeMadeAt P m (what.Load draft))
  load_is_free may r = by_load r (may r)

  pub load_is_stopped : (r : Refusal) → IsLeastRefusal (MayBeLoadedWhere P.loaded draft) r → IsLeastRefusal (MayBeMadeAt P m (what.Load draft)) r
  load_is_stopped r least = (not_by_load r least.0, λ lower less. by_load lower (least.1 lower less))

-- where there is no plan
pub lacks_plan : (P : Plan) (m : ℕ) (w : What) → NeedsPlan w → P.loaded ≡ false → IsLeastRefusal (MayBeMadeAt P m w) refusal.NotLoaded
lacks_plan P m w needs none = (λ may. true≢false (sym (may (omega arith) needs) ∙ none), λ lower less counts. absurd (omega (arith, less, counts)))

-- ---- at its moment

module _ (P : Plan) (q : Request) (m : ℕ) (at : q.at ≡ pos m) (onward : pos P.clock ≤ℤ q.at) (in_range : IsMoment m) where
  by_moment : (lower : Refusal) → number_of lower < number_of refusal.NotLoaded → MayBeAccepted P q lower
  by_moment refusal.Past less = onward
  by_moment refusal.MomentRange less = (m, at, in_range)
  by_moment lower less = absurd (omega (arith, less))

  pub may_be_accepted : NoneRefuses (MayBeMadeAt P m q.what) → NoneRefuses (MayBeAccepted P q)
  may_be_accepted free =
      none_of_all refusal.NotLoaded (MayBeAccepted P q) by_moment
      (subst (λ z. NoneRefuses (from_on refusal.NotLoaded (MayBeAccepted P (record { at = z; what = q.what })))) (sym at) free)

  pub is_refused : (r : Refusal) → IsLeastRefusal (MayBeMadeAt P m q.what) r → Step P q (refused r) P
  is_refused r stopped = record {
    least = least_of_all refusal.NotLoaded (MayBeAccepted P q) by_moment r
        (subst (λ z. IsLeastRefusal (from_on refusal.NotLoaded (MayBeAccepted P (record { at = z; what = q.what }))) r) (sym at) stopped);
    is_after = refl;
  }

-- ---- the plan that is held

pub held_loaded : (clock : ℕ) (x : Option Contents) → (plan_held clock x).loaded ≡ is_some x
held_loaded clock None = refl
held_loaded clock (Some contents) = refl
