-- What the rows tell that the tables hold: the plan and the receipts whose rows they are, or that there are none.
use Rattle.std.proofs.Common.{◌≡◌, refl, sym, ap, subst, subst₂, arith, eqb, ◌∙◌, Bool, true, false, List, [], ◌∷◌, length, Some}
use Rattle.std.proofs.lemmas.Bool.{eqb-false, eqb-true}
use Rattle.std.proofs.lemmas.List.{nil_from_length}
use Rattle.std.proofs.lemmas.Option.{none-some}
use Rattle.std.specs.FinMap as map
use Rattle.sqlite.specs.Effect.{Database}
use Rattle.sqlite.specs.declared.error.Error.{Error}
use Rattle.sqlite.specs.declared.error.Error.TheVariants.{SqliteFailure, SqlInputError}
use Rattle.sqlite.specs.declared.error.ErrorCode.TheVariants as code
use Rattle.plan_basics.proofs.Members.{contains_head, contains_none}
use Rattle.plan_basics.specs.Keys.{name_cmp}
use Rattle.plan_basics.specs.declared.Refusal.TheVariants as refusal
use Rattle.tracker_receipts.specs.plan_laws.proofs.Receipts.{empty_is_desk_state}
use Rattle.plan_model.specs.Plan.{Plan}
use Rattle.plan_core.specs.plan_opening.specs.Opening.{AreOfNoPlan, IsPlanOf}
use Rattle.store_reads.proofs.ReceiptsStored.{IsRowIn, hold_receipts, receipts_stored, rows_of_receipts}
use Rattle.store_reads.proofs.RowsStored.{listed_stored, none_stored, rows_listed}
use Rattle.store_reads.proofs.Turned.{are_turned, turned_are}
use Rattle.store_reads.specs.Reads.{IsNotOfTables}
use Rattle.store_reads.specs.Tables.{HasOtherRow, StoresEach, StoresRows}
use Rattle.store_reads.specs.Versions.{as_second, IsRowBy}
use Rattle.store_schema.specs.declared.texts.Version.{Version}
use Rattle.plan_records.specs.Receipts.{AreReceipts}
use Rattle.plan_records.specs.Run.{State}
use Rattle.plan_records.specs.Step.{Receipts}
use Rattle.plan_records.specs.declared.PlanRow.{PlanRow}
use Rattle.plan_records.specs.declared.PlanRow.TheVariants as row
use Rattle.tracker_receipts.specs.Stored.{AreRowsOf, Columns}
use Rattle.desk_tables.specs.Desk.{HoldsNoStateIn, HoldsStateIn}
use Rattle.desk_tables.specs.Faults.{opening_refusal}
use Rattle.desk_tables.specs.Opening.{AreOfNoState, IsStateOf}
use Rattle.desk_tables.proofs.InRange.{in_range}

-- ---- the receipts that have these rows

-- receipts of no tracker have no rows
rows_of_none : (T : Receipts) (rows : List Columns) → T ≡ map.empty → AreRowsOf T rows → rows ≡ []
rows_of_none T [] none are = refl
rows_of_none T (c ∷ rows) none are =
    let it = (are.each c).0 (contains_head c rows) in
    absurd (none-some it.1 (sym (map.get-empty name_cmp it.0) ∙ subst (λ (U : Receipts). map.get U it.0 ≡ Some it.1) none it.2))

-- receipts of no tracker are well formed, and have no rows
pub none_stand : (loaded : Bool) (T : Receipts) (rows : List Columns) → T ≡ map.empty → rows ≡ [] → AreReceipts loaded T × AreRowsOf T rows
none_stand loaded T rows none no_row = (
  subst (AreReceipts loaded) (sym none) (record { each = empty_is_desk_state.1.each; few = empty_is_desk_state.1.few; before_load = λ _. refl }),
  subst (AreRowsOf T) (sym no_row) (record {
    each = λ row. (
      λ has. absurd (contains_none row has),
      λ it. absurd (none-some it.1 (sym (map.get-empty name_cmp it.0) ∙ subst (λ (U : Receipts). map.get U it.0 ≡ Some it.1) none it.2)),
    );
    once = λ i j d less below. absurd (omega (arith, below));
  }),
)

-- what the test of a list's length tells of its rows
pub no_row_by_test : (rows : List Columns) → true ≡ eqb (length rows) 0 → rows ≡ []
no_row_by_test rows e = let none = eqb-true (length rows) 0 (sym e) in nil_from_length rows (omega (arith, none))

pub rows_by_test : (rows : List Columns) → false ≡ eqb (length rows) 0 → ¬ (rows ≡ [])
rows_by_test rows e none = eqb-false (length rows) 0 (sym e) (ap length none)

-- before a plan is loaded no well formed receipts have rows
pub none_before_load : (loaded : Bool) (rows : List Columns) → loaded ≡ false → ¬ (rows ≡ []) → (T : Receipts) → AreReceipts loaded T → ¬ AreRowsOf T rows
none_before_load loaded rows not_loaded some T legal are = some (rows_of_none T rows (legal.before_load not_loaded) are)

-- ---- the state that has these rows

pub is_state : (P : Plan) (T : Receipts) (rows : List PlanRow) (receipts : List Columns) → IsPlanOf rows P → AreReceipts P.loaded T × AreRowsOf T receipts → IsStateOf rows receipts (record { plan = P; receipts = T })
is_state P T rows receipts plan kept = record { legal = (plan.sound, kept.0); are_rows = plan.are_rows; are_receipts = kept.1 }

-- where the rows are those of no sound plan, they are of no state
pub no_plan_of : (rows : List PlanRow) (receipts : List Columns) → AreOfNoPlan rows → AreOfNoState rows receipts
no_plan_of rows receipts none s is = none s.plan (record { sound = is.legal.0; are_rows = is.are_rows })

-- nor where no well formed receipts beside their plan have the others
pub no_receipts_of : (P : Plan) (loaded : Bool) (rows : List PlanRow) (receipts : List Columns) → loaded ≡ P.loaded → IsPlanOf rows P → ((T : Receipts) → AreReceipts loaded T → ¬ AreRowsOf T receipts) → AreOfNoState rows receipts
no_receipts_of P loaded rows receipts same plan none s is =
    let meta = (is.are_rows.has_all (row.Meta 2 P.loaded P.clock)).0 ((plan.are_rows.has_all (row.Meta 2 P.loaded P.clock)).1 (refl, refl, refl)) in
    none s.receipts (subst (λ b. AreReceipts b s.receipts) (sym (same ∙ meta.1)) is.legal.1) is.are_receipts

-- ---- the tables

-- tables that hold just the rows of a state hold that state
state_in : (version : Version) (s : State) (rows : List PlanRow) (receipts : List Columns) (db : Database) → IsStateOf (as_second version rows) receipts s → StoresEach version rows receipts db → HoldsStateIn version s db
state_in version s rows receipts db is h = record {
  held = h.stores.held;
  stores = h.stores.stores;
  rows = listed_stored rows receipts db (turned_are version s.plan rows is.are_rows) h;
  receipts = receipts_stored s.receipts rows receipts db is.are_receipts h;
}

-- what tables of a state hold, as rows of a plan and columns of receipts
pub as_stored : (version : Version) (s : State) (db : Database) → HoldsStateIn version s db → StoresRows version (IsRowBy version s.plan) (IsRowIn s.receipts) db
as_stored version s db h = record { held = h.held; stores = h.stores; rows = h.rows; receipts = (hold_receipts s.receipts h.held).1 h.receipts }

-- where the rows are those of no state, the tables hold none
none_in : (version : Version) (rows : List PlanRow) (receipts : List Columns) (db : Database) → AreOfNoState (as_second version rows) receipts → StoresEach version rows receipts db → HoldsNoStateIn version db
none_in version rows receipts db none h s legal holds =
    let k = as_stored version s db holds in
    none s (record { legal = legal; are_rows = are_turned version s.plan rows (rows_listed rows receipts db h k) h.once; are_receipts = rows_of_receipts s.receipts rows receipts db h k })

-- so it is of what was read of tables, whose rows were then turned into those of the second version
module _ (version named : Version) (rows turned : List PlanRow) (receipts read : List Columns) (db : Database) (is_named : named ≡ version) (are : turned ≡ as_second named rows) (same : read ≡ receipts) (h : StoresEach version rows receipts db) where
  turned_by : turned ≡ as_second version rows
  turned_by = are ∙ ap (λ v. as_second v rows) is_named

  pub state_opened : (s : State) → IsStateOf turned read s → HoldsStateIn version s db
  state_opened s is = state_in version s rows receipts db (subst₂ (λ a b. IsStateOf a b s) turned_by same is) h

  pub none_opened : AreOfNoState turned read → HoldsNoStateIn version db
  none_opened none = none_in version rows receipts db (subst₂ AreOfNoState turned_by same none) h

-- where a row is none of a plan, the tables hold none: the rows of a sound plan are in their ranges
pub other_opened : (version : Version) (db : Database) → HasOtherRow version db.trees → HoldsNoStateIn version db
other_opened version db other s legal holds = none_stored other (in_range s.plan legal.0 version) (as_stored version s db holds)

-- a fault that isn't one of the tables isn't told as one
pub not_told_damaged : (e : Error) → IsNotOfTables e → ¬ (opening_refusal e ≡ refusal.Damaged)
not_told_damaged (SqlInputError fault) h is = absurd h
not_told_damaged (SqliteFailure code.NameTaken) h is = absurd h
not_told_damaged (SqliteFailure code.OutOfMemory) h is = absurd cc
not_told_damaged (SqliteFailure _) h is = absurd cc
not_told_damaged _ h is = absurd cc
