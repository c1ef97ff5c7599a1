-- A request that was prepared, by so many looks.
use Rattle.std.specs.Prelude.{ℕ}
use Rattle.plan_core.specs.State.{IsPreparedBy, PreparedState, plan_after}
use Rattle.request_outcomes.specs.Looked.{AreLooksFor}
use Rattle.request_outcomes.specs.declared.accepted.AcceptedOutcome.{AcceptedOutcome}
use Rattle.plan_records.specs.declared.Request.{Request}
use Rattle.plan_model.specs.Plan.{Plan}

-- what callers see of it at minute m, where so many looks were taken
abbrev pub prepared_by : ℕ → AcceptedOutcome → ℕ → PreparedState
prepared_by m x looks = record { clock = m; next = x.next; named = x.named.items; rows = x.changes.rows.items; gone = x.changes.gone.items; work = looks }

-- the request was prepared so for this plan, by so many looks
pub record IsPreparedIn (P : Plan) (request : Request) (p : PreparedState) : Type 0 where
  pub by : IsPreparedBy request (record { plan = P }) p
  pub looks : AreLooksFor P.contents request.what (plan_after (record { plan = P }) p).contents p.rows p.work
