-- What is known of since when operations are going as they do: named, running, or ready where their completion alone is reported.
use Rattle.std.specs.Prelude.{◌≡◌, ◌↔◌, ℕ, ◌≤◌, Option, Some, None}
use Rattle.plan_basics.specs.declared.keys.OpKey.{OpKey}
use Rattle.plan_model.specs.Contents.{Contents, Has}
use Rattle.plan_model.specs.Plan.{IsSoundPlan, Plan}
use Rattle.status_rules.specs.declared.Mark.TheVariants as mark
use Rattle.plan_forecast.specs.Ahead.{IsGoing}

-- its start is reported
abbrev pub IsRunning : Contents → OpKey → Type 0
IsRunning P o = Has P o (λ op. op.mark ≡ mark.Running)

-- o is going before and after, and runs in both, or in neither
abbrev pub GoesOnAlike : Contents → Contents → OpKey → Type 0
GoesOnAlike before after o = IsGoing before o × IsGoing after o × (IsRunning before o ↔ IsRunning after o)

-- what is known once a request has led from one plan to the next: of what goes on alike what was known, of all else that is going the request's moment, of what isn't going nothing
pub record AreStartsAfter (before after : Plan) (old new : OpKey → Option ℕ) : Type 0 where
  pub begun : (o : OpKey) → IsGoing after.contents o → ¬ GoesOnAlike before.contents after.contents o → new o ≡ Some after.clock
  pub goes_on : (o : OpKey) → GoesOnAlike before.contents after.contents o → new o ≡ old o
  pub over : (o : OpKey) → ¬ IsGoing after.contents o → new o ≡ None

-- what may be known in a plan: of what is going alone, and none after its clock
abbrev pub AreKnownStarts : Plan → (OpKey → Option ℕ) → Type 0
AreKnownStarts P known = (o : OpKey) (b : ℕ) → known o ≡ Some b → IsGoing P.contents o × (b ≤ P.clock)

-- it is so after each request, where it was so before
abbrev pub StartsStayKnown : Type 0
StartsStayKnown = (P after : Plan) (old new : OpKey → Option ℕ) → IsSoundPlan P → IsSoundPlan after → P.clock ≤ after.clock → AreStartsAfter P after old new → AreKnownStarts P old → AreKnownStarts after new

-- a report of a start by which something begins to run is its start, whatever was known of it: since when it was named, or nothing
abbrev pub ReportedStartIsKnown : Type 0
ReportedStartIsKnown = (P after : Plan) (old new : OpKey → Option ℕ) → IsSoundPlan after → AreStartsAfter P after old new → (o : OpKey) → ¬ IsRunning P.contents o → IsRunning after.contents o → new o ≡ Some after.clock
