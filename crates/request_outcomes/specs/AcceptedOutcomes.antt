-- What a request leads to, as it is worked out before its looks are told.
use Rattle.std.specs.Prelude.{ℕ, Some}
use Rattle.request_outcomes.specs.Looked.{AreLooksFor}
use Rattle.request_outcomes.specs.Next.{IsNextFor, contents_next}
use Rattle.request_outcomes.specs.declared.accepted.AcceptedOutcome.{AcceptedOutcome}
use Rattle.plan_model.specs.Contents.{Contents}
use Rattle.plan_model.specs.Plan.{Plan, plan_held}
use Rattle.plan_records.specs.Answer.{accepted}
use Rattle.plan_records.specs.Rows.{AreChanges}
use Rattle.plan_records.specs.Step.{Step}
use Rattle.plan_records.specs.declared.Request.{Request}
use Rattle.plan_records.specs.declared.What.{What}

-- what a plan holds then, of what it holds now
abbrev pub contents_after : Contents → AcceptedOutcome → Contents
contents_after P x = contents_next P x.next x.named.items

-- this request leads there from this plan at minute m; these rows change
pub record IsAcceptedOutcomeOf (P : Plan) (request : Request) (m : ℕ) (x : AcceptedOutcome) : Type 0 where
  pub step : Step P request (accepted x.named.items) (plan_held m (Some (contents_after P.contents x)))
  pub changes : AreChanges P (plan_held m (Some (contents_after P.contents x))) x.changes.rows.items x.changes.gone.items
  pub fits : IsNextFor P x.next x.named.items

-- so many looks may be taken for it in a plan that holds P
abbrev pub AreLooksTo : Contents → What → AcceptedOutcome → ℕ → Type 0
AreLooksTo P w x looks = AreLooksFor P w (contents_after P x) x.changes.rows.items looks
