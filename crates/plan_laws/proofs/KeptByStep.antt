-- A step keeps a plan sound where its change keeps what it holds sound.
use Rattle.std.proofs.Common.{pos, ◌≡◌, sym, ap, subst, true≢false, ℕ}
use Rattle.plan_basics.specs.declared.Refusal.TheVariants as refusal
use Rattle.plan_records.specs.declared.What.TheVariants as what
use Rattle.plan_records.specs.Answer.{accepted, refused}
use Rattle.plan_basics.specs.Minutes.{IsMoment}
use Rattle.plan_laws.proofs.Kept.{choice_keeps_sound}
use Rattle.plan_records.specs.plan_model.specs.Plan.{IsSoundPlan}
use Rattle.plan_records.specs.plan_model.specs.Valid.{IsSound}
use Rattle.plan_records.specs.Acceptance.{minute_of}
use Rattle.plan_records.specs.Laws.{ChangeKeepsSound, StepKeepsSound}
use Rattle.plan_records.specs.declared.Request.{Request}
use Rattle.plan_records.specs.declared.What.{What}

pub moment_in_range : (q : Request) → (m : ℕ) × (q.at ≡ pos m) × IsMoment m → IsMoment (minute_of q.at)
moment_in_range q h = subst IsMoment (sym (ap minute_of h.1)) h.2

-- the moment, and the names, are the same for all requests
pub step_keeps_sound : ((w : What) → ChangeKeepsSound w) → StepKeepsSound
step_keeps_sound keeps P after q (refused r) sound step = subst IsSoundPlan (sym step.is_after) sound
step_keeps_sound keeps P after q (accepted chosen) sound step =
    subst IsSoundPlan (sym step.is_after) (record {
      clock = moment_in_range q (step.none_refuses refusal.MomentRange);
      contents = choice_keeps_sound step.changed (minute_of q.at) chosen (keeps q.what P step.changed q.at sound step.none_refuses step.is_request step.changes) step.is_chosen;
      before_load = λ h. absurd (true≢false h);
    })

pub tick_keeps_sound : ChangeKeepsSound what.Tick
tick_keeps_sound P Q at sound may request c = subst IsSound (sym c) sound.contents
