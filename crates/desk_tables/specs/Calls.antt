-- What a call was prepared to do.
use Rattle.std.specs.Prelude.{List}
use Rattle.std.specs.FinMap.{insert}
use Rattle.plan_basics.specs.declared.keys.OpKey.{OpKey}
use Rattle.store_schema.specs.Receipts.{written_numbered}
use Rattle.store_schema.specs.WrittenTables.{written}
use Rattle.plan_core.specs.State.{IsPreparedFor, plan_after}
use Rattle.plan_records.specs.Run.{State}
use Rattle.plan_records.specs.Step.{Numbered as NumberedRequest}
use Rattle.store_schema.specs.StoredPlans.{Held}
use Rattle.desk_tables.specs.Steps.{IsNumberedStepFor}
use Rattle.desk_tables.specs.declared.calls.PreparedCall.{PreparedCall}
use Rattle.desk_tables.specs.declared.calls.PreparedCall.TheVariants.{Plain, Numbered}

-- the keys that are named
abbrev pub named_by : PreparedCall → List OpKey
named_by (Plain p) = p.named
named_by (Numbered p) = p.prepared.named

-- the plan that it leads to, and the receipts beside it: a plain request leaves them
abbrev pub state_after : State → PreparedCall → State
state_after s (Plain p) = record { plan = plan_after (record { plan = s.plan }) p; receipts = s.receipts }
state_after s (Numbered p) = record { plan = plan_after (record { plan = s.plan }) p.prepared; receipts = insert s.receipts p.tracker p.receipt }

-- what is written into the tables: the rows that change, and the receipt of a numbered request
abbrev pub change_of : PreparedCall → Held → Held
change_of (Plain p) = written p.rows p.gone
change_of (Numbered p) = written_numbered p.prepared.rows p.prepared.gone p.row

-- it was prepared for this plan and these receipts
abbrev pub IsPreparedAt : State → PreparedCall → Type 0
IsPreparedAt s (Plain p) = IsPreparedFor (record { plan = s.plan }) p
IsPreparedAt s (Numbered p) = (n : NumberedRequest) × IsNumberedStepFor (record { plan = s.plan }) s.receipts n p
