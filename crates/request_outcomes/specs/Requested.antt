-- What may be asked of a plan, and what a request makes of it.
use Rattle.std.specs.Prelude.{ℕ, pos}
use Rattle.plan_basics.specs.declared.Refusal.{Refusal}
use Rattle.plan_basics.specs.declared.Refusal.TheVariants as refusal
use Rattle.plan_basics.specs.Refusals.{from_on}
use Rattle.plan_model.specs.Contents.{Contents}
use Rattle.plan_model.specs.Plan.{Plan}
use Rattle.plan_records.specs.Acceptance.{MayBeAccepted}
use Rattle.plan_records.specs.Changes.{Changes, IsRequest}
use Rattle.plan_records.specs.declared.What.{What}

-- made at minute m, the request isn't refused for this; those refusals that go by the moment don't count
abbrev pub MayBeMadeAt : Plan → ℕ → What → Refusal → Type 0
MayBeMadeAt P m w = from_on refusal.NotLoaded (MayBeAccepted P (record { at = pos m; what = w }))

-- what this legal request makes of what a plan holds, P
pub record AreMadeBy (P : Contents) (w : What) (new : Contents) : Type 0 where
  pub is_request : IsRequest w
  pub changes : Changes P w new
