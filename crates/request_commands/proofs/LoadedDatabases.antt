-- The plan at the desk of a database, and what a load there is answered.
use Rattle.std.proofs.Common.{◌≡◌, ◌≢◌, ◌⊎◌, ◌↔◌, inl, inr, refl, sym, ap, ◌∙◌, subst, arith, ℤ, Bool, true, false, not, IsTrue, Option, Result, Ok, Err, IfErr, IfOk, is_some, [], length}
use Rattle.std.proofs.lemmas.Bool.{true≢false, false≢true}
use Rattle.std.specs.List.{list_any}
use Rattle.sqlite.specs.Effect.{Database}
use Rattle.sqlite.specs.Held.{Held as Connected}
use Rattle.sqlite.specs.Schema.{Schema}
use Rattle.sqlite.specs.State.{State as StoreState, HasCleanDisk}
use Rattle.store_schema.specs.Tables.{no_schema}
use Rattle.plan_basics.specs.declared.Refusal.{Refusal}
use Rattle.plan_basics.specs.declared.Refusal.TheVariants as refusal
use Rattle.plan_records.specs.plan_model.specs.Contents.{Contents}
use Rattle.command_desks.specs.desk_tables.specs.store_reads.specs.Reads.{OnlyReads}
use Rattle.command_desks.specs.desk_tables.specs.store_reads.specs.Versions.{HasTableQuantity}
use Rattle.plan_records.specs.Answer.{Answer, accepted, refused}
use Rattle.plan_records.specs.Run.{Answers, CallStep, State, empty_state, plain, usable}
use Rattle.plan_records.specs.Step.{Step}
use Rattle.plan_records.specs.declared.Request.{Request}
use Rattle.store_schema.specs.Schema.{desk_schema, first_schema, schema_of}
use Rattle.store_schema.specs.declared.texts.Version.{Version}
use Rattle.store_schema.specs.declared.texts.Version.TheVariants.{First, Second}
use Rattle.command_desks.specs.desk_tables.specs.Desk.{DeskState, HasFirstTables, HasTables, HoldsNoStateIn, HoldsState, state_of, usability}
use Rattle.command_desks.specs.desk_tables.specs.Opening.{IsOpenedFirst}
use Rattle.command_desks.specs.desk_tables.proofs.Held.{brought_up}
use Rattle.command_desks.specs.desk_tables.proofs.Stopped.{desk_has_quantity}
use Rattle.command_desks.specs.desk_tables.specs.Faults.{IsOpeningRefusal}
use Rattle.command_desks.specs.desk_tables.specs.Shut.{IsOpenAfter, may_have_shut}
use Rattle.request_commands.specs.Databases.{HasNoTable, HasSchema, IsAnswerToLoad, IsDamaged, IsForDesk, IsStateAt}
use Rattle.command_desks.specs.Loaded.{load_request}

-- what is found of a schema that has no table
pub no_table_found : (found schema : Schema) (b : Bool) → found ≡ schema → found.tables ≡ [] → b ≡ list_any (λ view. is_some view.foreign) found.views → IsTrue (not b) ↔ HasNoTable schema
no_table_found found schema true is none any = (λ e. absurd (false≢true e), λ h. absurd (true≢false (any ∙ subst (λ (s : Schema). list_any (λ view. is_some view.foreign) s.views ≡ false) (sym is) h.1)))
no_table_found found schema false is none any = (λ _. subst HasNoTable is (none, sym any), λ _. refl)

-- a desk's tables are tables
are_tables : (version : Version) → ¬ HasNoTable (schema_of version)
are_tables First none = let e : length first_schema.tables ≡ 0 = ap length none.0 in omega (arith, e)
are_tables Second none = let e : length desk_schema.tables ≡ 0 = ap length none.0 in omega (arith, e)

module _ (old new : StoreState) where
  -- the state of a desk that was made
  pub made_state : HasNoTable old.now.schema → (s : State) → s ≡ empty_state → IsStateAt old new s
  made_state none s is = record {
    made = λ _. is;
    opened = λ clean version has. absurd (are_tables version (subst HasNoTable has.0 none));
  }

  -- that of a desk that was opened
  pub opened_state : ¬ HasNoTable old.now.schema → (s : State) → (HasCleanDisk new → IsTrue new.is_open) → (HasCleanDisk new → IsTrue old.is_open) → (IsTrue old.is_open → HasTableQuantity old.committed.schema → OnlyReads old new) → (HasCleanDisk new → HasTables new → HoldsState s new.committed)
      → (HasCleanDisk new → HasFirstTables old → IsOpenedFirst s old new) → IsStateAt old new s
  opened_state some s is_open was_open reads holds brought = record {
    made = λ none. absurd (some none);
    opened = λ clean. elim [
      | First ↦ λ has. (brought clean has.1).held
      | Second ↦ λ has.
          let same = ((reads (was_open clean) (desk_has_quantity old.committed has.1)).kept clean).committed (is_open clean) in
          subst (HoldsState s) same (holds clean (ap (λ (db : Database). db.schema) same ∙ has.1))
    ];
  }

  -- a desk's tables stay where it is opened
  pub opened_same : (HasCleanDisk new → IsTrue new.is_open) → (HasCleanDisk new → IsTrue old.is_open) → (IsTrue old.is_open → HasTableQuantity old.committed.schema → OnlyReads old new) → HasCleanDisk new → HasSchema old desk_schema → new.committed ≡ old.committed
  opened_same is_open was_open reads clean has = ((reads (was_open clean) (desk_has_quantity old.committed has.1)).kept clean).committed (is_open clean)

  -- those of the first version are then those of the second
  pub opened_first : (s : State) → (HasCleanDisk new → HasFirstTables old → IsOpenedFirst s old new) → HasCleanDisk new → HasSchema old first_schema → HoldsState s new.committed
  opened_first s brought clean has = let it = brought clean has.1 in brought_up s old.committed new.committed it.committed.3 it.held

  -- a database in which no desk could be made for its tables
  pub damaged_made : HasNoTable old.now.schema → old.committed.schema ≢ no_schema → IsDamaged old
  damaged_made none some = (λ has. some has.1, λ version has. absurd (are_tables version (subst HasNoTable has.0 none)))

  -- one of which none could be opened
  pub damaged_opened : ¬ HasNoTable old.now.schema → new.committed ≡ old.committed → ((version : Version) → new.committed.schema ≡ schema_of version → HoldsNoStateIn version new.committed) → IsDamaged old
  damaged_opened some same none = (
    λ has. some (subst HasNoTable (sym has.0) (refl, refl)),
    λ version has. subst (HoldsNoStateIn version) same (none version (ap (λ (db : Database). db.schema) same ∙ has.1)),
  )

-- so it is of what came of an opening: the state of the desk, and what the tables hold, of either version
module _ {S : Type 0} (shown : Connected S → StoreState) (old : StoreState) where
  pub state_told : (r : Result (DeskState S) (Refusal × Connected S)) → ¬ HasNoTable old.now.schema
      → IfOk r (λ desk. HasCleanDisk (shown desk.conn) → IsTrue (shown desk.conn).is_open)
      → IfOk r (λ desk. HasCleanDisk (shown desk.conn) → IsTrue old.is_open)
      → IfOk r (λ desk. IsTrue old.is_open → HasTableQuantity old.committed.schema → OnlyReads old (shown desk.conn))
      → IfOk r (λ desk. HasCleanDisk (shown desk.conn) → HasTables (shown desk.conn) → HoldsState (state_of desk) (shown desk.conn).committed)
      → IfOk r (λ desk. HasCleanDisk (shown desk.conn) → HasFirstTables old → IsOpenedFirst (state_of desk) old (shown desk.conn))
      → IfOk r (λ desk. IsStateAt old (shown desk.conn) (state_of desk))
  state_told (Ok desk) some is_open kept reads holds brought = opened_state old (shown desk.conn) some (state_of desk) is_open kept reads holds brought
  state_told (Err e) some is_open kept reads holds brought = tt

  pub same_told : (r : Result (DeskState S) (Refusal × Connected S))
      → IfOk r (λ desk. HasCleanDisk (shown desk.conn) → IsTrue (shown desk.conn).is_open)
      → IfOk r (λ desk. HasCleanDisk (shown desk.conn) → IsTrue old.is_open)
      → IfOk r (λ desk. IsTrue old.is_open → HasTableQuantity old.committed.schema → OnlyReads old (shown desk.conn))
      → IfOk r (λ desk. HasCleanDisk (shown desk.conn) → HasSchema old desk_schema → (shown desk.conn).committed ≡ old.committed)
  same_told (Ok desk) is_open kept reads = opened_same old (shown desk.conn) is_open kept reads
  same_told (Err e) is_open kept reads = tt

  pub first_told : (r : Result (DeskState S) (Refusal × Connected S))
      → IfOk r (λ desk. HasCleanDisk (shown desk.conn) → HasFirstTables old → IsOpenedFirst (state_of desk) old (shown desk.conn))
      → IfOk r (λ desk. HasCleanDisk (shown desk.conn) → HasSchema old first_schema → HoldsState (state_of desk) (shown desk.conn).committed)
  first_told (Ok desk) brought = opened_first old (shown desk.conn) (state_of desk) brought
  first_told (Err e) brought = tt

-- so it is told where none could be opened
pub damaged_told : (D C : Type 0) (state_of_it : C → StoreState) (old : StoreState) (r : Result D (Refusal × C)) → ¬ HasNoTable old.now.schema
    → IfErr r (λ e. HasCleanDisk (state_of_it e.1) → IsOpenAfter (refused e.0) (state_of_it e.1) → (state_of_it e.1).committed ≡ old.committed)
    → IfErr r (λ e. e.0 ≡ refusal.Damaged → HasCleanDisk (state_of_it e.1) → IsTrue (state_of_it e.1).is_open)
    → IfErr r (λ e. e.0 ≡ refusal.Damaged → HasCleanDisk (state_of_it e.1) → (version : Version) → (state_of_it e.1).committed.schema ≡ schema_of version → HoldsNoStateIn version (state_of_it e.1).committed)
    → IfErr r (λ e. e.0 ≡ refusal.Damaged → HasCleanDisk (state_of_it e.1) → IsDamaged old)
damaged_told D C state_of_it old (Ok d) some undone still none = tt
damaged_told D C state_of_it old (Err e) some undone still none = λ is clean. damaged_opened old (state_of_it e.1) some (undone clean (λ _. still is clean)) (none is clean)

-- what isn't a step at a usable desk is want of memory or a fault of the store, and no damage
pub refused_step : (X : Type 0) (s t : State) (q : Request) (v : Bool) (r : Refusal) → Answers s usable (plain q) (refused r) t (usability v)
    → (IsOpeningRefusal r × (r ≡ refusal.Damaged → X)) ⊎ CallStep s (plain q) (refused r) s
refused_step X s t q v refusal.Memory h = inl (inr (inl refl), λ is. absurd (cc))
refused_step X s t q v refusal.Store h = inl (inr (inr refl), λ is. absurd (cc))
refused_step X s t q v r h = inr (subst (λ X. Step s.plan q (refused r) X) h.0.0.is_after h.0.0, refl)

-- the desk of a database, `mid`, was asked for a load, which left `new`
module _ (old mid new : StoreState) (s t : State) (at : ℤ) (draft : Option Contents) (u v : Bool)
    (found : IsStateAt old mid s)
    (in_use : u ≡ true)
    (is_open : HasCleanDisk mid → IsTrue mid.is_open)
    (made : HasCleanDisk mid → HasSchema old no_schema → HoldsState empty_state mid.committed)
    (opened : HasCleanDisk mid → HasSchema old desk_schema → mid.committed ≡ old.committed)
    (brought : HasCleanDisk mid → HasSchema old first_schema → HoldsState s mid.committed)
    (late : HasCleanDisk new → HasCleanDisk mid) where
  state_kept : IsStateAt old new s
  state_kept = record { made = found.made; opened = λ clean. found.opened (late clean) }

  has_tables : HasCleanDisk mid → IsForDesk old → HasTables mid
  has_tables clean (inl none) = (made clean none).stores.schema_is
  has_tables clean (inr (First, has)) = (brought clean has).stores.schema_is
  has_tables clean (inr (Second, has)) = ap (λ (db : Database). db.schema) (opened clean has) ∙ has.1

  load_of : (x : Answer) → Answers s usable (plain (load_request at draft)) x t (usability v)
      → (HasCleanDisk new → IsTrue mid.is_open → may_have_shut x ≡ false → IsTrue new.is_open)
      → (HasCleanDisk new → IsTrue mid.is_open → IsOpenAfter x new → HasTables mid → HoldsState t new.committed)
      → (HasCleanDisk new → (r : Refusal) → x ≡ refused r → IsOpenAfter (refused r) new → new.committed ≡ mid.committed)
      → IsAnswerToLoad old new at draft x
  load_of (accepted named) answers stays holds kept = (
    s,
    t,
    state_kept,
    answers.0,
    λ clean has. let was = is_open (late clean) in (stays clean was refl, holds clean was (λ shut. absurd (false≢true shut)) (has_tables (late clean) has)),
  )
  load_of (refused r) answers stays holds kept = (
    elim (refused_step (HasCleanDisk new → IsTrue new.is_open × IsDamaged old) s t (load_request at draft) v r answers) [
      | inl why ↦ inl why
      | inr step ↦ inr (s, state_kept, step)
    ],
    λ clean told has. kept clean r refl told ∙ opened (late clean) has,
    λ clean told has. inr (s, state_kept, subst (HoldsState s) (sym (kept clean r refl told)) (brought (late clean) has)),
  )

  pub load_answered : (x : Answer) → Answers s (usability u) (plain (load_request at draft)) x t (usability v)
      → (HasCleanDisk new → IsTrue mid.is_open → may_have_shut x ≡ false → IsTrue new.is_open)
      → (HasCleanDisk new → IsTrue mid.is_open → IsOpenAfter x new → HasTables mid → HoldsState t new.committed)
      → (HasCleanDisk new → (r : Refusal) → x ≡ refused r → IsOpenAfter (refused r) new → new.committed ≡ mid.committed)
      → IsAnswerToLoad old new at draft x
  load_answered x answers = load_of x (subst (λ b. Answers s (usability b) (plain (load_request at draft)) x t (usability v)) in_use answers)
