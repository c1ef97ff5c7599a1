-- What a stop leaves, and what an opening after it finds.
use Rattle.std.proofs.Common.{◌≡◌, ◌↔◌, inl, inr, refl, sym, arith, subst, ◌∙◌, ap, [], Bool, true, false, Option, None, Some, IsTrue}
use Rattle.std.proofs.lemmas.Bool.{false≢true}
use Rattle.sqlite.specs.Effect.{Database, IsDatabase}
use Rattle.sqlite.specs.State.{State as StoreState, HasCleanDisk, IsLive, Survives}
use Rattle.sqlite_trees.specs.Tree.{Trees}
use Rattle.tracker_receipts.specs.plan_laws.proofs.Tabling.{rows_tell_plan, rows_tell_receipts}
use Rattle.store_reads.proofs.ReceiptsStored.{IsRowIn, one_receipts}
use Rattle.store_reads.proofs.RowsStored.{one_stored}
use Rattle.store_reads.specs.Reads.{OnlyReads}
use Rattle.store_reads.specs.Versions.{HasTableQuantity, IsRowBy}
use Rattle.store_reads.proofs.TableQuantity.{second_has_quantity}
use Rattle.store_schema.proofs.Catalogs.{one_schema}
use Rattle.store_schema.specs.Tables.{no_schema}
use Rattle.plan_records.specs.Receipts.{AreReceipts, IsReceiptRow}
use Rattle.plan_records.specs.Rows.{IsRow}
use Rattle.plan_records.specs.declared.PlanRow.{PlanRow}
use Rattle.plan_records.specs.declared.PlanRow.TheVariants as row
use Rattle.plan_model.specs.Plan.{Plan}
use Rattle.plan_records.specs.Run.{Call, State, Usable, to_be_reopened, usable}
use Rattle.plan_records.specs.Schedules.{IsDeskState, found, nothing, opening, stop, stopped}
use Rattle.plan_records.specs.Step.{Receipt, Receipts}
use Rattle.plan_writes.specs.Within.{Begins, LeavesMade}
use Rattle.tracker_receipts.proofs.SameReceipt.{one_receipt}
use Rattle.tracker_receipts.specs.Stored.{columns_of}
use Rattle.store_schema.specs.Schema.{desk_schema, first_schema, schema_of}
use Rattle.store_schema.specs.declared.texts.Version.{Version}
use Rattle.store_schema.specs.declared.texts.Version.TheVariants.{First, Second}
use Rattle.desk_tables.specs.Desk.{HasFirstTables, HasTables, HoldsFirstState, HoldsNoStateIn, HoldsState, HoldsStateIn, IsClean, IsStepCommitted, TreesHold, TreesHoldIn, usability}
use Rattle.desk_tables.specs.Opening.{IsOpenedFirst, MayBringUp}
use Rattle.desk_tables.specs.Stops.{AreLeftBy, AreLeftByMaking, AreLeftIn, MayCommitStep, StopsLeave}
use Rattle.desk_tables.proofs.Held.{begun_held, brought_up}
use Rattle.desk_tables.proofs.Opened.{as_stored}

-- ---- tables hold one state

-- plans with the same rows in one version have the same rows in the second
by_second : (version : Version) (P Q : Plan) → ((r : PlanRow) → IsRowBy version P r ↔ IsRowBy version Q r) → (r : PlanRow) → IsRow P r ↔ IsRow Q r
by_second Second P Q same r = same r
by_second First P Q same (row.Meta version loaded clock) = (
  λ h. let it = (same (row.Meta 1 loaded clock)).0 (refl, h.1, h.2) in (h.0, it.1, it.2),
  λ h. let it = (same (row.Meta 1 loaded clock)).1 (refl, h.1, h.2) in (h.0, it.1, it.2),
)
by_second First P Q same r = same r

receipt_kept : (a b : Bool) (T U : Receipts) → AreReceipts a T → AreReceipts b U → ((c : _) → IsRowIn T c → IsRowIn U c) → (tracker : _) (receipt : Receipt) → IsReceiptRow T tracker receipt → IsReceiptRow U tracker receipt
receipt_kept a b T U t u within tracker receipt has =
    let it = within (columns_of tracker receipt) (tracker, receipt, has, refl) in
    let same = one_receipt tracker it.0 receipt it.1 (t.each tracker receipt has) (u.each it.0 it.1 it.2) it.3 in
    subst (λ k. IsReceiptRow U k receipt) (sym same.0) (subst (IsReceiptRow U it.0) (sym same.1) it.2)

pub one_state : (version : Version) (s t : State) (db : Database) → IsDeskState s → IsDeskState t → HoldsStateIn version s db → HoldsStateIn version t db → s ≡ t
one_state version s t db p q h k =
    let a = as_stored version s db h in
    let b = as_stored version t db k in
    let plan = rows_tell_plan s.plan t.plan p.0.contents.valid q.0.contents.valid (by_second version s.plan t.plan (one_stored a b)) in
    let receipts = rows_tell_receipts s.receipts t.receipts (λ tracker receipt. (
      receipt_kept s.plan.loaded t.plan.loaded s.receipts t.receipts p.1 q.1 (λ c. (one_receipts a b c).0) tracker receipt,
      receipt_kept t.plan.loaded s.plan.loaded t.receipts s.receipts q.1 p.1 (λ c. (one_receipts a b c).1) tracker receipt,
    )) in
    λ i. record { plan = plan i; receipts = receipts i }

-- the schema of either version has no view
no_views : (version : Version) → (schema_of version).views ≡ []
no_views First = refl
no_views Second = refl

-- trees that were left are those of the same tables once they are opened
found_again : (version : Version) (s : State) (trees : Trees) (db : Database) → TreesHoldIn version s trees → IsDatabase db → db.trees ≡ trees → HoldsStateIn version s db
found_again version s trees db left sound same =
    let held = left.1 in
    let schema : left.0.schema ≡ db.schema = one_schema left.0.trees left.0.schema db.schema (ap (λ x. x.views) held.stores.schema_is ∙ no_views version) held.stores.sound (subst (λ z. IsDatabase (record { schema = db.schema; trees = z })) (same ∙ left.2) sound) in
    let is : left.0 ≡ db = λ i. record { schema = schema i; trees = (sym left.2 ∙ sym same) i } in
    subst (HoldsStateIn version s) is held

-- ---- what a stop leaves

-- tables that stay are left by a stop in a call
stop_keeps : (s : State) (u : Usable) (c : Call) (trees : Trees) → TreesHold s trees → AreLeftBy s (Some u) (stopped c None) trees
stop_keeps s usable c trees held = (s, None, (inl refl, refl), held)
stop_keeps s to_be_reopened c trees held = (s, None, (refl, refl), held)

-- and so are those after an accepted step
stop_steps : (s : State) (b : Bool) (c : Call) (trees : Trees) → b ≡ true → IsStepCommitted s c trees → AreLeftBy s (Some (usability b)) (stopped c None) trees
stop_steps s true c trees e (t, named, step, held) = (t, None, (inr (named, step), refl), held)
stop_steps s false c trees e step = absurd (false≢true e)

-- tables of a state are left by a stop between calls, whatever desk there is
stands : (s : State) (d : Option Usable) (trees : Trees) → TreesHold s trees → AreLeftBy s d stop trees
stands s None trees held = (s, None, (refl, refl), held)
stands s (Some usable) trees held = (s, None, (refl, refl), held)
stands s (Some to_be_reopened) trees held = (s, None, (refl, refl), held)

-- what a desk has come to is what a stop leaves then, where its store is open
pub desk_stands : (now : StoreState) → (IsTrue now.is_open → (trees : Trees) → now.may_leave trees → trees ≡ now.committed.trees) → (s : State) (d : Option Usable) → (IsClean now → HasTables now → HoldsState s now.committed) → IsTrue now.is_open → HasTables now
    → StopsLeave now (AreLeftBy s d stop)
desk_stands now settled s d holds is_open has clean trees may = stands s d trees (now.committed, holds (clean, is_open) has, settled is_open trees may)

-- a desk's tables have one that is called `quantity`
pub desk_has_quantity : (db : Database) → db.schema ≡ desk_schema → HasTableQuantity db.schema
desk_has_quantity db is = second_has_quantity db.schema is

-- while the store is open, a stop before anything is done leaves what was committed
module _ (old : StoreState) (settled : (trees : Trees) → old.may_leave trees → trees ≡ old.committed.trees) where
  module _ (s : State) (held : HasCleanDisk old → HoldsState s old.committed) where
    -- a call that does nothing
    pub none_stops : (u : Usable) (c : Call) → StopsLeave old (AreLeftBy s (Some u) (stopped c None))
    none_stops u c clean trees may = stop_keeps s u c trees (old.committed, held clean, settled trees may)

    -- a call that may commit a step
    pub step_stops : (new : StoreState) → IsTrue old.is_open → HasTables old → (b : Bool) (c : Call) → b ≡ true → Survives old new (MayCommitStep old s c) → StopsLeave new (AreLeftBy s (Some (usability b)) (stopped c None))
    step_stops new is_open has b c was survives clean trees may = elim (survives.crash clean trees may) [
      | inl same ↦ stop_keeps s (usability b) c trees (old.committed, held (omega (arith, clean, survives.clean)), settled trees same)
      | inr made ↦ stop_steps s b c trees was (made is_open has)
    ]

  -- an opening of a desk's tables
  pub reading_stops : (new : StoreState) (s : State) → TreesHold s old.committed.trees → Survives old new (λ _. ⊥) → StopsLeave new (AreLeftBy s None (opening nothing))
  reading_stops new s held survives clean trees may = elim (survives.crash clean trees may) [
    | inl same ↦ (s, None, (refl, refl), subst (TreesHold s) (sym (settled trees same)) held)
    | inr none ↦ absurd none
  ]

  -- trees of a desk's state are those of its tables, of which an opening only reads
  pub desk_stops : (new : StoreState) (s : State) → IsTrue old.is_open → IsLive old → (IsTrue old.is_open → old.now ≡ old.committed) → TreesHold s old.committed.trees → (HasTableQuantity old.now.schema → OnlyReads old new) → StopsLeave new (AreLeftBy s None (opening nothing))
  desk_stops new s is_open live shown left reads =
      let was = found_again Second s old.committed.trees old.committed left (live is_open).1 refl in
      reading_stops new s left (reads (desk_has_quantity old.now (ap (λ (db : Database). db.schema) (shown is_open) ∙ was.stores.schema_is))).survives

  -- one before anything is read
  pub no_reading_stops : (s : State) → TreesHold s old.committed.trees → StopsLeave old (AreLeftBy s None (opening nothing))
  no_reading_stops s held clean trees may = (s, None, (refl, refl), subst (TreesHold s) (sym (settled trees may)) held)

  -- trees that stay are left in their version
  stays_in : (version : Version) (s : State) (trees : Trees) → TreesHoldIn version s old.committed.trees → old.may_leave trees → AreLeftIn version s None (opening nothing) trees
  stays_in version s trees held may = (s, None, version, (refl, refl), inl refl, subst (TreesHoldIn version s) (sym (settled trees may)) held)

  -- an opening of tables of the first version
  pub bringing_stops : (new : StoreState) (s : State) → IsTrue old.is_open → IsLive old → IsDeskState s → TreesHoldIn First s old.committed.trees → Survives old new (MayBringUp old) → StopsLeave new (AreLeftIn First s None (opening nothing))
  bringing_stops new s is_open live legal left survives clean trees may = elim (survives.crash clean trees may) [
    | inl same ↦ stays_in First s trees left same
    | inr (t, sound, made) ↦
        (let h = found_again First s old.committed.trees old.committed left (live is_open).1 refl in
        let both = made is_open h.stores.schema_is in
        let is : t ≡ s = one_state First t s old.committed sound legal both.0 h in
        (s, None, Second, (refl, refl), inr (legal, refl), subst (λ u. TreesHold u trees) is both.1))
  ]

  -- and where nothing is read
  pub no_bringing_stops : (s : State) → TreesHoldIn First s old.committed.trees → StopsLeave old (AreLeftIn First s None (opening nothing))
  no_bringing_stops s held clean trees may = stays_in First s trees held may

  -- the making of the tables
  pub making_stops : (new : StoreState) → IsTrue old.is_open → old.committed.schema ≡ no_schema → Survives old new (LeavesMade Begins old) → StopsLeave new (AreLeftByMaking old.committed.trees)
  making_stops new is_open none survives clean trees may = elim (survives.crash clean trees may) [
    | inl same ↦ inl (settled trees same)
    | inr made ↦ inr (made.0, begun_held made.0 ((made.1 is_open).stores (record { schema_is = none; empty = tt })), made.2)
  ]

  -- and where nothing is made
  pub no_making_stops : StopsLeave old (AreLeftByMaking old.committed.trees)
  no_making_stops clean trees may = inl (settled trees may)

-- ---- what is opened after it

module _ (version : Version) (s : State) (old new : StoreState) (live : IsLive old) (clean : HasCleanDisk new) (is_open : IsTrue new.is_open) (was_open : IsTrue old.is_open) (legal : IsDeskState s) (left : TreesHoldIn version s old.committed.trees) where
  held : HoldsStateIn version s old.committed
  held = found_again version s old.committed.trees old.committed left (live was_open).1 refl

  -- where what is committed stays, an opening doesn't find the tables damaged
  pub never_damaged : new.committed ≡ old.committed → ((any : Version) → new.committed.schema ≡ schema_of any → HoldsNoStateIn any new.committed) → ⊥
  never_damaged stays none = none version (ap (λ (db : Database). db.schema) stays ∙ held.stores.schema_is) s legal (subst (HoldsStateIn version s) (sym stays) held)

-- an opening of a desk's tables finds just that state
pub opening_finds : (s : State) (old new : StoreState) → IsLive old → (IsTrue old.is_open → old.now ≡ old.committed) → (HasTableQuantity old.now.schema → OnlyReads old new) → HasCleanDisk new → IsTrue new.is_open → IsTrue old.is_open → IsDeskState s → TreesHold s old.committed.trees → (x : State) → IsDeskState x → (HasTables new → HoldsState x new.committed)
    → HasTables new × AreLeftBy s None (opening (found x)) new.committed.trees
opening_finds s old new live shown reads clean is_open was_open legal left x sound tables =
    let was = held Second s old new live clean is_open was_open legal left in
    let kept = (reads (desk_has_quantity old.now (ap (λ (db : Database). db.schema) (shown was_open) ∙ was.stores.schema_is))).kept clean in
    let stays : new.committed ≡ old.committed = kept.committed is_open in
    let now : HoldsState s new.committed = subst (HoldsState s) (sym stays) was in
    let has = now.stores.schema_is in
    (has, (s, Some usable, (legal, one_state Second x s new.committed sound legal (tables has) now, refl, refl), (new.committed, now, refl)))

-- and so does one of tables of the first version, which makes them a desk's
pub bringing_finds : (s : State) (old new : StoreState) → IsLive old → HasCleanDisk new → IsTrue new.is_open → IsTrue old.is_open → IsDeskState s → TreesHoldIn First s old.committed.trees → (x : State) → IsDeskState x → (HasFirstTables old → IsOpenedFirst x old new)
    → HasTables new × AreLeftIn First s None (opening (found x)) new.committed.trees
bringing_finds s old new live clean is_open was_open legal left x sound opened =
    let was = held First s old new live clean is_open was_open legal left in
    let it = opened was.stores.schema_is in
    let is : x ≡ s = one_state First x s old.committed sound legal it.held was in
    let now : HoldsState s new.committed = subst (λ t. HoldsState t new.committed) is (brought_up x old.committed new.committed it.committed.3 it.held) in
    (now.stores.schema_is, (s, Some usable, Second, (legal, is, refl, refl), refl, (new.committed, now, refl)))
