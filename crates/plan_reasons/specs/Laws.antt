-- How reasons go with what may start.
use Rattle.std.specs.Prelude.{◌≡◌, ◌≢◌, ◌↔◌, ℕ, List, [], true}
use Rattle.plan_basics.specs.declared.keys.OpKey.{OpKey}
use Rattle.plan_model.specs.Contents.{Contents, Has, attribute_at}
use Rattle.plan_model.specs.Holdings.{takes}
use Rattle.plan_model.specs.Plan.{Plan, IsSoundPlan}
use Rattle.plan_model.specs.Ready.{IsOnAutomatic}
use Rattle.plan_model.specs.Starts.{IsAllowedToStart}
use Rattle.plan_model.specs.Status.{IsReady}
use Rattle.plan_model.specs.Valid.{IsValid}
use Rattle.plan_core.specs.plan_records.specs.Acceptance.{minute_of}
use Rattle.plan_core.specs.plan_records.specs.Answer.{accepted}
use Rattle.plan_core.specs.plan_records.specs.Step.{Step}
use Rattle.plan_core.specs.plan_records.specs.declared.Request.{Request}
use Rattle.plan_reasons.specs.Whys.{AreReasons}
use Rattle.plan_reasons.specs.declared.reasons.Reason.{Reason}

-- o is on a workstation of attribute A or S, where starts are known
abbrev pub StartsAreKnown : Contents → OpKey → Type 0
StartsAreKnown P o = Has P o (λ op. takes (attribute_at P op.workstation) ≡ true)

-- of an operation on a workstation of attribute A or S the list of reasons is empty exactly where it is allowed to start at that moment
abbrev pub EmptyWhereItMayStart : Type 0
EmptyWhereItMayStart = (P : Contents) → IsValid P → (o : OpKey) (m : ℕ) (reasons : List Reason) → StartsAreKnown P o → AreReasons P o m reasons → (reasons ≡ []) ↔ IsAllowedToStart P o m

-- what an accepted request leaves ready on an automatic workstation isn't allowed to start at its moment
abbrev pub NoneIsLeftToStart : Type 0
NoneIsLeftToStart =
    (P after : Plan) (q : Request) (chosen : List OpKey) → IsSoundPlan P → Step P q (accepted chosen) after
    → (o : OpKey) → IsReady after.contents o → IsOnAutomatic after.contents o → ¬ IsAllowedToStart after.contents o (minute_of q.at)

-- so it has a reason then
abbrev pub ReadyHasReason : Type 0
ReadyHasReason =
    (P after : Plan) (q : Request) (chosen : List OpKey) → IsSoundPlan P → Step P q (accepted chosen) after
    → (o : OpKey) (reasons : List Reason) → IsReady after.contents o → IsOnAutomatic after.contents o → AreReasons after.contents o (minute_of q.at) reasons → reasons ≢ []
