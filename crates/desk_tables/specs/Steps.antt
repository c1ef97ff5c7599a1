-- What a numbered request that isn't refused leads to.
use Rattle.std.specs.Prelude.{◌≡◌, List}
use Rattle.std.specs.FinMap.{insert}
use Rattle.plan_basics.specs.declared.keys.OpKey.{OpKey}
use Rattle.plan_core.specs.State.{FitsPlan, PlanState, plan_after}
use Rattle.plan_records.specs.Answer.{accepted}
use Rattle.plan_records.specs.Receipts.{IsReceipt}
use Rattle.plan_records.specs.Rows.{AreChanges}
use Rattle.plan_records.specs.Step.{Numbered, Receipt, Receipts, StepsAnew}
use Rattle.tracker_receipts.specs.Stored.{columns_of}
use Rattle.desk_tables.specs.declared.numbering.steps.NumberedStep.{NumberedStep}
use Rattle.desk_tables.specs.declared.numbering.steps.NumberedOutcome.{NumberedOutcome}
use Rattle.desk_tables.specs.declared.numbering.steps.NumberedOutcome.TheVariants.{Again, New}

-- the receipt of a request that names these keys
abbrev pub receipt_of : Numbered → List OpKey → Receipt
receipt_of n named = record { number = n.number; text = n.text; named = named }

-- by this request some step leads from this plan and these receipts to the plan that was prepared of it and to its own receipt beside the others; the rows that change are told, and that of its receipt
pub record IsNumberedStepFor (s : PlanState) (T : Receipts) (n : Numbered) (p : NumberedStep) : Type 0 where
  pub tracker : p.tracker ≡ n.tracker
  pub receipt : p.receipt ≡ receipt_of n p.prepared.named
  pub step : StepsAnew s.plan T n (accepted p.prepared.named) (plan_after s p.prepared) (insert T n.tracker p.receipt)
  pub legal : IsReceipt n.tracker p.receipt
  pub changes : AreChanges s.plan (plan_after s p.prepared) p.prepared.rows p.prepared.gone
  pub fits : FitsPlan s p.prepared
  pub row : p.row ≡ columns_of n.tracker p.receipt

-- if it is answered again, this holds of the keys
abbrev pub IfAgain : (List OpKey → Type 0) → NumberedOutcome → Type 0
IfAgain holds (Again named) = holds named.items
IfAgain holds (New step) = Unit {0}

-- if it is new, this holds of its step
abbrev pub IfNew : (NumberedStep → Type 0) → NumberedOutcome → Type 0
IfNew holds (Again named) = Unit {0}
IfNew holds (New step) = holds step
