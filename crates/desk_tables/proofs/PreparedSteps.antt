-- What is known of a numbered step that was prepared, and what makes one.
use Rattle.std.proofs.Common.{◌≡◌, ◌⊎◌, refl, sym, ap, subst, ◌+◌, ◌<◌, true}
use Rattle.std.specs.FinMap.{contains_key, get, insert, len}
use Rattle.plan_basics.specs.Keys.{Name}
use Rattle.plan_basics.specs.declared.Refusal.TheVariants as refusal
use Rattle.plan_basics.specs.declared.limits.TheConstants.{MOST_TRACKERS}
use Rattle.plan_core.specs.State.{FitsPlan, IsPreparedFor, PlanState, plan_after}
use Rattle.plan_model.specs.Plan.{IsSoundPlan}
use Rattle.plan_records.specs.Answer.{accepted}
use Rattle.plan_records.specs.Receipts.{IsReceipt}
use Rattle.plan_records.specs.Rows.{AreChanges}
use Rattle.plan_records.specs.Step.{HasReceiptRoom, IsNumbered, Numbered, Receipts, Step, last_number}
use Rattle.tracker_receipts.specs.Stored.{columns_of}
use Rattle.desk_tables.specs.Steps.{IsNumberedStepFor, receipt_of}
use Rattle.desk_tables.specs.declared.numbering.steps.NumberedStep.{NumberedStep}
use Rattle.desk_tables.proofs.Receipts.{its_receipt}
use Rattle.desk_tables.proofs.Rooms.{accepted_with_room}

module _ (s : PlanState) (T : Receipts) (n : Numbered) (p : NumberedStep) where
  module _ (is : IsNumberedStepFor s T n p) where
    pub own_step : Step s.plan n.request (accepted p.prepared.named) (plan_after s p.prepared)
    own_step = let step = is.step.2 in record {
      none_refuses = λ r. (step.none_refuses r).0;
      is_request = step.is_request;
      changed = step.changed;
      changes = step.changes;
      is_chosen = step.is_chosen;
      is_after = step.is_after;
    }

    pub is_prepared : IsPreparedFor s p.prepared
    is_prepared = record { request = n.request; by = record { step = own_step; changes = is.changes; fits = is.fits } }

    pub has_room : (contains_key T p.tracker ≡ true) ⊎ (len T < MOST_TRACKERS)
    has_room = subst (λ (k : Name). (contains_key T k ≡ true) ⊎ (len T < MOST_TRACKERS)) (sym is.tracker) ((is.step.2.none_refuses refusal.Limit).1 refl).0

    pub is_legal : IsReceipt p.tracker p.receipt
    is_legal = subst (λ (k : Name). IsReceipt k p.receipt) (sym is.tracker) is.legal

  pub step_is : IsSoundPlan s.plan → IsNumbered n → n.number ≡ last_number (get T n.tracker) + 1 → HasReceiptRoom T n → Step s.plan n.request (accepted p.prepared.named) (plan_after s p.prepared) → AreChanges s.plan (plan_after s p.prepared) p.prepared.rows p.prepared.gone → FitsPlan s p.prepared
      → p.tracker ≡ n.tracker → p.receipt ≡ receipt_of n p.prepared.named → p.row ≡ columns_of n.tracker p.receipt → IsNumberedStepFor s T n p
  step_is sound legal next room step changes fits tracker receipt row = record {
    tracker = tracker;
    receipt = receipt;
    step = (next, λ chosen is. legal, accepted_with_room s.plan T n room p.prepared.named (plan_after s p.prepared) step, ap (insert T n.tracker) receipt);
    legal = subst (IsReceipt n.tracker) (sym receipt) (its_receipt s.plan (plan_after s p.prepared) p.prepared.named sound T n legal next room step);
    changes = changes;
    fits = fits;
    row = row;
  }
