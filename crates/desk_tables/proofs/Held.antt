-- What the tables hold: the rows of no plan where a desk begins, and after a step those of the state that it leaves.
use Rattle.std.proofs.Common.{◌≡◌, inl, inr, refl, sym, arith, subst, subst₂, List, IsTrue}
use Rattle.std.specs.FinMap.{insert}
use Rattle.sqlite.specs.Effect.{Database}
use Rattle.sqlite.specs.Held.{state}
use Rattle.sqlite.specs.State.{State as StoreState, HasCleanDisk, Survives}
use Rattle.sqlite_trees.specs.Tree.{Trees}
use Rattle.sqlite_trees.specs.declared.store.Store.{Ghosts}
use Rattle.store_schema.specs.Tables.{no_schema}
use Rattle.desk_tables.specs.Steps.{IsNumberedStepFor}
use Rattle.desk_tables.specs.declared.numbering.steps.NumberedStep.{NumberedStep}
use Rattle.plan_core.specs.State.{plan_after}
use Rattle.plan_basics.specs.declared.keys.OpKey.{OpKey}
use Rattle.store_schema.proofs.PlanWritten.{step_written}
use Rattle.store_schema.proofs.ReceiptPut.{none_are_held, receipt_written, receipts_alike, receipts_stay, rows_beside_receipt}
use Rattle.store_schema.proofs.RowPut.{receipts_beside_row}
use Rattle.store_schema.proofs.Start.{held_at_first}
use Rattle.store_schema.proofs.Upgraded.{upgraded}
use Rattle.store_schema.specs.Receipts.{HoldReceipts, stored_receipt, written_numbered}
use Rattle.store_schema.specs.WrittenTables.{HoldRows, with_row, written}
use Rattle.plan_model.specs.Plan.{Plan, IsSoundPlan}
use Rattle.plan_records.specs.Answer.{accepted}
use Rattle.plan_records.specs.Rows.{IsRow}
use Rattle.plan_records.specs.declared.PlanRow.TheVariants as row
use Rattle.plan_records.specs.Run.{Call, CallStep, State, empty_state, numbered, plain}
use Rattle.plan_records.specs.Step.{Numbered as NumberedRequest, NumberedMayBeAccepted, Receipts, Step, StepBy, StepsAnew}
use Rattle.store_schema.specs.StoredPlans.{Held, Stores, Turns}
use Rattle.desk_tables.specs.Calls.{change_of, named_by, state_after, IsPreparedAt}
use Rattle.desk_tables.specs.Desk.{DeskState, HasTables, HoldsFirstState, HoldsState, IsKept, IsStepCommitted, state_of}
use Rattle.desk_tables.specs.Stops.{MayCommitStep}
use Rattle.desk_tables.specs.declared.calls.PreparedCall.{PreparedCall}
use Rattle.desk_tables.specs.declared.calls.PreparedCall.TheVariants.{Plain, Numbered}
use Rattle.plan_writes.specs.Upgrading.{Upgrades}
use Rattle.plan_writes.specs.Within.{Begins, IsCommitted, IsUndone, LeavesMade, Rewrites, first_held}

-- ---- where a desk begins

-- the tables that were made hold the rows of no plan, and no receipt
pub begun_held : (db : Database) → Stores db first_held → HoldsState empty_state db
begun_held db stores = record { held = first_held; stores = stores; rows = held_at_first; receipts = none_are_held first_held refl }

-- the tables that a desk begins with, where there was none before
pub begun_so : (before after : Database) → Begins before after → before.schema ≡ no_schema → HoldsState empty_state after
begun_so before after begins none = begun_held after (begins.stores (record { schema_is = none; empty = tt }))

-- tables of the first version that hold a state hold it as those of the second
pub brought_up : (s : State) (before after : Database) → Upgrades s.plan.loaded s.plan.clock before after → HoldsFirstState s before → HoldsState s after
brought_up s before after up h =
    let is = row.Meta 2 s.plan.loaded s.plan.clock in
    record {
      held = with_row is h.held;
      stores = up.stores h.held h.stores;
      rows = upgraded s.plan h.held h.rows;
      receipts = receipts_alike s.receipts h.held (with_row is h.held) (receipts_beside_row is h.held) h.receipts;
    }

-- ---- a step

-- tables of the one state, so changed, are those of the other
abbrev pub Carries : State → State → (Held → Held) → Type 0
Carries s t change = (held : Held) → HoldRows (IsRow s.plan) held → HoldReceipts s.receipts held → HoldRows (IsRow t.plan) (change held) × HoldReceipts t.receipts (change held)

module _ (s t : State) (change : Held → Held) (carries : Carries s t change) where
  pub step_held : (before after : Database) → Turns change before after → HoldsState s before → HoldsState t after
  step_held before after turns h =
      let both = carries h.held h.rows h.receipts in
      record { held = change h.held; stores = turns h.held h.stores; rows = both.0; receipts = both.1 }

  module _ (old : StoreState) where
    -- so are they where the changes were committed
    pub step_committed : (new : StoreState) → IsCommitted (Rewrites change) old new → HoldsState s old.committed → HoldsState t new.committed
    step_committed new done h = step_held old.committed new.committed done.3.turns h

    module _ (c : Call) (named : List OpKey) (step : CallStep s c (accepted named) t) where
      -- and where a crash leaves the changes made
      step_left : (trees : Trees) → IsTrue old.is_open → HoldsState s old.committed → LeavesMade (Rewrites change) old trees → IsStepCommitted s c trees
      step_left trees is_open h left = (t, named, step, (left.0, step_held old.committed left.0 (left.1 is_open).turns h, left.2))

      -- so a crash leaves what there was, or the tables after this step
      pub step_survives : (new : StoreState) → (HasCleanDisk old → IsTrue old.is_open → HasTables old → HoldsState s old.committed) → Survives old new (LeavesMade (Rewrites change) old) → Survives old new (MayCommitStep old s c)
      step_survives new held survives = record {
        clean = survives.clean;
        shield = survives.shield;
        counts = survives.counts;
        limit = survives.limit;
        closes = survives.closes;
        crash = λ clean trees may. elim (survives.crash clean trees may) [
          | inl was ↦ inl was
          | inr left ↦ inr (λ is_open has. step_left trees is_open (held (omega (arith, clean, survives.clean)) is_open has) left)
        ];
      }

-- ---- nothing changed

-- a transaction that was undone leaves the tables as they were
pub undone_held : (s : State) (old new : StoreState) → IsUndone old new → HoldsState s old.committed → HoldsState s new.committed
undone_held s old new undone h = subst (HoldsState s) (sym undone.2) h

-- ---- what was prepared

-- a numbered request's step is one of its request
plain_step : (P Q : Plan) (T : Receipts) (n : NumberedRequest) (named : List OpKey) → StepBy (NumberedMayBeAccepted P T n) P n.request (accepted named) Q → Step P n.request (accepted named) Q
plain_step P Q T n named h = record { none_refuses = λ r. (h.none_refuses r).0; is_request = h.is_request; changed = h.changed; changes = h.changes; is_chosen = h.is_chosen; is_after = h.is_after }

-- a numbered request leads to the state that was prepared for it
pub numbered_step : (s : State) (n : NumberedRequest) (p : NumberedStep) → IsNumberedStepFor (record { plan = s.plan }) s.receipts n p → CallStep s (numbered n) (accepted p.prepared.named) (state_after s (Numbered p))
numbered_step s n p is = inr (subst (λ t. StepsAnew s.plan s.receipts n (accepted p.prepared.named) (plan_after (record { plan = s.plan }) p.prepared) (insert s.receipts t p.receipt)) (sym is.tracker) is.step)

-- some call leads to the state that was prepared
pub step_of : (s : State) (p : PreparedCall) → IsPreparedAt s p → (c : Call) × CallStep s c (accepted (named_by p)) (state_after s p)
step_of s (Plain p) is = (plain is.request, (is.by.step, refl))
step_of s (Numbered p) is = (numbered is.0, numbered_step s is.0 p is.1)

-- what it writes leads from the tables of the one to those of the other
pub prepared_carries : (s : State) (p : PreparedCall) → IsSoundPlan s.plan → IsPreparedAt s p → Carries s (state_after s p) (change_of p)
prepared_carries s (Plain p) sound is held rows receipts = (
  step_written s.plan (state_after s (Plain p)).plan is.request (accepted p.named) p.rows p.gone sound is.by.step is.by.changes held rows,
  receipts_stay s.receipts p.rows p.gone held receipts,
)
prepared_carries s (Numbered p) sound is held rows receipts =
    let n = is.0 in
    let q = p.prepared in
    let Q = (state_after s (Numbered p)).plan in
    let step = plain_step s.plan Q s.receipts n q.named is.1.step.2 in (
      rows_beside_receipt (IsRow Q) (stored_receipt p.row) (written q.rows q.gone held) (step_written s.plan Q n.request (accepted q.named) q.rows q.gone sound step is.1.changes held rows),
      subst₂ (λ t c. HoldReceipts (insert s.receipts t p.receipt) (written_numbered q.rows q.gone c held)) (sym is.1.tracker) (sym is.1.row) (receipt_written s.receipts n.tracker p.receipt q.rows q.gone held receipts),
    )

-- ---- at the desk

-- what a prepared call changes was committed
pub carried_held : {S : Type 0} (g : Ghosts S) (old : DeskState S) → IsKept g old → (p : PreparedCall) → IsPreparedAt (state_of old) p → (t : State) → t ≡ state_after (state_of old) p → (new : StoreState)
    → IsCommitted (Rewrites (change_of p)) (state g old.conn) new → HasCleanDisk (state g old.conn) → HasTables (state g old.conn) → HoldsState t new.committed
carried_held g old kept p is t led new done clean has =
    let s = state_of old in
    subst (λ u. HoldsState u new.committed) (sym led)
    (step_committed s (state_after s p) (change_of p) (prepared_carries s p kept.legal.0 is) (state g old.conn) new done (kept.tables (clean, done.0) has))
