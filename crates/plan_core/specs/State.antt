-- What callers see of a plan in memory, and of a request that was prepared for it.
use Rattle.std.specs.Prelude.{ℕ, List, [], ◌∷◌, Some, map, refl}
use Rattle.std.specs.Coded.{Coded, code_by, coded×, coded_ℕ, coded_list}
use Rattle.plan_basics.specs.contracts.keys.OpKey as operation_key
use Rattle.plan_basics.specs.declared.keys.OpKey.{OpKey}
use Rattle.request_outcomes.specs.Next.{IsNextFor, contents_next}
use Rattle.request_outcomes.specs.contracts.accepted.NextPlan as next_row
use Rattle.request_outcomes.specs.declared.accepted.NextPlan.{NextPlan}
use Rattle.plan_records.specs.plan_drafts.specs.contracts.RowKey as row_key
use Rattle.plan_records.specs.plan_drafts.specs.declared.RowKey.{RowKey}
use Rattle.plan_model.specs.Plan.{Plan, plan_held}
use Rattle.plan_model.specs.Code.{plan_code}
use Rattle.plan_records.specs.Answer.{Answer, accepted, refused}
use Rattle.plan_records.specs.Rows.{AreChanges}
use Rattle.plan_records.specs.Run.{Run, accepted_replies, plain, usable}
use Rattle.plan_records.specs.Step.{Step, Receipts}
use Rattle.plan_records.specs.contracts.PlanRow as plan_row
use Rattle.plan_records.specs.declared.PlanRow.{PlanRow}
use Rattle.plan_records.specs.declared.Request.{Request}

-- the plan that callers see
pub record PlanState : Type 0 where
  pub plan : Plan

-- the moment of a request, what it makes of the plan; the operations that are named, in order, and the rows of the tables that change: those that are new or differ, and the keys of those that are gone; and how many operation records were looked at
pub record PreparedState : Type 0 where
  pub clock : ℕ
  pub next : NextPlan
  pub named : List OpKey
  pub rows : List PlanRow
  pub gone : List RowKey
  pub work : ℕ

-- what callers see of a plan is stored as that plan
abbrev pub state_code : Coded PlanState
state_code = code_by Plan plan_code (λ s. s.plan) (λ P. record { plan = P }) (λ _. refl)

-- a prepared request is stored as its six parts
abbrev pub prepared_code : Coded PreparedState
prepared_code = code_by
    (((ℕ × NextPlan) × (List OpKey × ℕ)) × (List PlanRow × List RowKey))
    (coded× (coded× (coded× coded_ℕ (next_row.the_row).coded) (coded× (coded_list (operation_key.the_row).coded) coded_ℕ)) (coded× (coded_list (plan_row.the_row).coded) (coded_list (row_key.the_row).coded)))
    (λ s. (((s.clock, s.next), (s.named, s.work)), (s.rows, s.gone)))
    (λ p. record { clock = p.0.0.0; next = p.0.0.1; named = p.0.1.0; rows = p.1.0; gone = p.1.1; work = p.0.1.1 })
    (λ _. refl)

-- the plan that a prepared request leads to from this one
abbrev pub plan_after : PlanState → PreparedState → Plan
plan_after s p = plan_held p.clock (Some (contents_next s.plan.contents p.next p.named))

-- the plan may be led there
abbrev pub FitsPlan : PlanState → PreparedState → Type 0
FitsPlan s p = IsNextFor s.plan p.next p.named

-- this request leads from this plan to that one, and names these; these rows change
pub record IsPreparedBy (request : Request) (s : PlanState) (p : PreparedState) : Type 0 where
  pub step : Step s.plan request (accepted p.named) (plan_after s p)
  pub changes : AreChanges s.plan (plan_after s p) p.rows p.gone
  pub fits : FitsPlan s p

-- some request does
-- (only another request that is applied undoes it, since nothing else changes the plan)
pub record IsPreparedFor (s : PlanState) (p : PreparedState) : Type 0 where
  pub request : Request
  pub by : IsPreparedBy request s p

-- these are the answers to the requests in their order, and the plan at their end, whatever receipts are kept beside it
abbrev pub AnswersAll : Plan → List Request → List Answer → Plan → Type 0
AnswersAll P requests answers after = (receipts : Receipts) → Run (record { plan = P; receipts = receipts }) usable (map plain requests) answers (record { plan = after; receipts = receipts }) usable

-- the requests that were accepted, by their answers
abbrev pub accepted_requests : List Request → List Answer → List Request
accepted_requests (q ∷ requests) (accepted named ∷ answers) = q ∷ accepted_requests requests answers
accepted_requests (q ∷ requests) (refused r ∷ answers) = accepted_requests requests answers
accepted_requests [] answers = []
accepted_requests (q ∷ requests) [] = []

-- the accepted requests alone are answered the same, and lead to the same plan
abbrev pub AcceptedAnswerAll : Plan → List Request → List Answer → Plan → Type 0
AcceptedAnswerAll P requests answers after = AnswersAll P (accepted_requests requests answers) (accepted_replies answers) after
