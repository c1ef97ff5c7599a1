-- Steps that nothing refuses: a tick over a plan, and a draft that is loaded where there is none.
use Rattle.std.proofs.Common.{rules, ℕ, ◌≤◌, refl, pos, List, Some}
use Rattle.plan_basics.specs.Minutes.{IsMoment}
use Rattle.plan_basics.specs.declared.keys.OpKey.{OpKey}
use Rattle.plan_basics.specs.declared.Refusal.{Refusal}
use Rattle.plan_basics.specs.declared.Refusal.TheVariants as refusal
use Rattle.plan_model.specs.Plan.{no_plan}
use Rattle.plan_model.specs.Contents.{Contents}
use Rattle.plan_model.specs.Ready.{IsChosen, named}
use Rattle.plan_records.specs.declared.Request.{Request}
use Rattle.plan_records.specs.declared.What.TheVariants as what
use Rattle.plan_records.specs.Acceptance.{MayBeAccepted}
use Rattle.plan_records.specs.Answer.{accepted}
use Rattle.plan_drafts.specs.Drafts.{IsDraft}
use Rattle.plan_records.specs.Step.{Step}
use Rattle.worked_examples.specs.Day.{loaded_at}

module _ (P : Contents) (m : ℕ) (is : IsMoment m) (chosen : List OpKey) (are : IsChosen P m chosen) where
  abbrev ticking : Request
  ticking = record { at = pos m; what = what.Tick }

  abbrev loading : Request
  loading = record { at = pos m; what = what.Load (Some P) }

  -- no earlier than the plan's clock, what is chosen is named
  pub tick_names : (clock : ℕ) → clock ≤ m → Step (loaded_at clock P) ticking (accepted chosen) (loaded_at m (named chosen P))
  tick_names clock late = record { none_refuses = nothing_refuses; is_request = tt; changed = P; changes = refl; is_chosen = are; is_after = refl }
    where
      nothing_refuses : (r : Refusal) → MayBeAccepted (loaded_at clock P) ticking r
      nothing_refuses refusal.Past = search rules
      nothing_refuses refusal.MomentRange = (m, refl, is)
      nothing_refuses refusal.NotLoaded = λ needs. refl
      nothing_refuses refusal.Loaded = λ loads. absurd loads
      nothing_refuses r = tt

  -- so it is once a draft is loaded
  pub load_names : IsDraft P → Step no_plan loading (accepted chosen) (loaded_at m (named chosen P))
  load_names draft = record { none_refuses = nothing_refuses; is_request = draft; changed = P; changes = refl; is_chosen = are; is_after = refl }
    where
      nothing_refuses : (r : Refusal) → MayBeAccepted no_plan loading r
      nothing_refuses refusal.Past = search rules
      nothing_refuses refusal.MomentRange = (m, refl, is)
      nothing_refuses refusal.NotLoaded = λ needs. absurd needs
      nothing_refuses refusal.Loaded = λ loads. refl
      nothing_refuses refusal.BadPlan = refl
      nothing_refuses r = tt
