-- What a request that may be accepted leads to.
use Rattle.std.proofs.Common.{◌≡◌, sym, ap, subst, ◌∙◌, ℕ, true, true≢false, pos, List, Option, Some, is_some}
use Rattle.plan_basics.specs.Minutes.{IsMoment}
use Rattle.plan_basics.specs.Refusals.{NoneRefuses}
use Rattle.plan_basics.specs.declared.Refusal.TheVariants as refusal
use Rattle.plan_basics.specs.declared.keys.OpKey.{OpKey}
use Rattle.small_requests.specs.plan_laws.proofs.Every.{every_change_keeps_sound}
use Rattle.small_requests.specs.plan_laws.proofs.Running.{request_passes}
use Rattle.plan_model.specs.Contents.{Contents}
use Rattle.plan_model.specs.Plan.{Plan, IsSoundPlan}
use Rattle.plan_model.specs.Ready.{IsChosen, named}
use Rattle.plan_model.specs.Valid.{IsSound}
use Rattle.plan_records.specs.Acceptance.{MayBeAccepted, MayBeDone, NeedsPlan, minute_of}
use Rattle.plan_records.specs.Answer.{accepted}
use Rattle.plan_records.specs.Step.{Step}
use Rattle.plan_records.specs.declared.Request.{Request}
use Rattle.plan_records.specs.declared.What.{What}
use Rattle.plan_records.specs.declared.What.TheVariants as what
use Rattle.small_requests.specs.RequestEdits.{IsSmall}
use Rattle.plan_model.specs.Plan.{plan_held}
use Rattle.request_outcomes.specs.Requested.{AreMadeBy}

-- a loaded plan of sound contents is sound
pub sound_at : (clock : ℕ) (P : Contents) → IsMoment clock → IsSound P → IsSoundPlan (plan_held clock (Some P))
sound_at clock P moment sound = record { clock = moment; contents = sound; before_load = λ h. absurd (true≢false h) }

module _ (P : Plan) (q : Request) (allows : NoneRefuses (MayBeAccepted P q)) where
  pub has_plan : NeedsPlan q.what → P.loaded ≡ true
  has_plan = allows refusal.NotLoaded

  pub has_draft : (draft : Option Contents) → q.what ≡ what.Load draft → is_some draft ≡ true
  has_draft draft is = subst (λ v. MayBeDone P.contents (minute_of q.at) v refusal.BadPlan) is (allows refusal.BadPlan)

  -- nothing of the plan stands in its way
  pub is_clear : NoneRefuses (MayBeDone P.contents (minute_of q.at) q.what)
  is_clear refusal.Past = (request_passes P.contents (minute_of q.at) q.what).0
  is_clear refusal.MomentRange = (request_passes P.contents (minute_of q.at) q.what).1
  is_clear refusal.NotLoaded = (request_passes P.contents (minute_of q.at) q.what).2
  is_clear refusal.Loaded = (request_passes P.contents (minute_of q.at) q.what).6
  is_clear r = allows r

  -- its minute is a moment
  pub is_moment : IsMoment (minute_of q.at)
  is_moment = let told = allows refusal.MomentRange in subst IsMoment (sym (ap minute_of told.1)) told.2

  -- of contents, H, that are the plan's
  pub is_clear_of : (H : Contents) → H ≡ P.contents → (at : ℕ) × IsMoment at × NoneRefuses (MayBeDone H at q.what)
  is_clear_of H is = (minute_of q.at, is_moment, subst (λ (z : Contents). NoneRefuses (MayBeDone z (minute_of q.at) q.what)) (sym is) is_clear)

  module _ (new : Contents) (made : AreMadeBy P.contents q.what new) where
    pub made_sound : IsSoundPlan P → IsSound new
    made_sound sound = every_change_keeps_sound q.what P new q.at sound allows made.is_request made.changes

    module _ (at : ℕ) (is : q.at ≡ pos at) where
      pub accepted_step : (after : Plan) (os : List OpKey) → IsChosen new at os → after ≡ plan_held at (Some (named os new)) → Step P q (accepted os) after
      accepted_step after os chosen after_is = record {
        none_refuses = allows;
        is_request = made.is_request;
        changed = new;
        changes = made.changes;
        is_chosen = subst (λ z. IsChosen new (minute_of z) os) (sym is) chosen;
        is_after = after_is ∙ ap (λ z. plan_held (minute_of z) (Some (named os new))) (sym is);
      }

-- a small request is none that loads a plan
pub small_needs_plan : (w : What) → IsSmall w → NeedsPlan w
small_needs_plan (what.Load draft) small = absurd small
small_needs_plan _ small = tt
