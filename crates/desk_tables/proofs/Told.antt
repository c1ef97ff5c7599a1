-- What is told where no desk is made or opened, and what telling it leaves of the store.
use Rattle.std.proofs.Common.{◌≡◌, ◌⊎◌, inl, inr, refl, sym, ap, subst, ◌∙◌, arith, ℕ, List, [], Result, Ok, Err, IfOk, IfErr, IsTrue}
use Rattle.sqlite.specs.Effect.{Database}
use Rattle.sqlite.specs.Order.{Row}
use Rattle.sqlite.specs.State.{State as StoreState, HasCleanDisk, IsNotRun, IsRolledBack, IsUnchanged, KeepsCommit, Survives}
use Rattle.sqlite.specs.declared.error.Error.{Error}
use Rattle.sqlite.specs.declared.error.Error.TheVariants.{SqliteFailure, SqlInputError}
use Rattle.sqlite.specs.declared.error.ErrorCode.TheVariants as code
use Rattle.sqlite.proofs.StateLemmas.{survives_then}
use Rattle.sqlite_trees.specs.Tree.{Trees}
use Rattle.plan_basics.specs.declared.Refusal.{Refusal}
use Rattle.plan_basics.specs.declared.Refusal.TheVariants as refusal
use Rattle.store_reads.specs.Reads.{OnlyReads}
use Rattle.store_schema.specs.Schema.{schema_of}
use Rattle.store_schema.specs.declared.texts.Version.{Version}
use Rattle.plan_records.specs.Answer.{refused}
use Rattle.desk_tables.specs.Desk.{HoldsNoStateIn, IsClean}
use Rattle.desk_tables.specs.Faults.{opening_refusal, IsOpeningRefusal}
use Rattle.desk_tables.specs.Shut.{may_have_shut, IsOpenAfter}
use Rattle.plan_writes.specs.Faults.{IsOfNames}

-- ---- a statement is taken in

unchanged_keeps : (old new : StoreState) → IsUnchanged old new → KeepsCommit old new
unchanged_keeps old new same = record { was_open = λ _. same.0.was_open; committed = λ _. same.0.committed_is }

rolled_back_keeps : (old new : StoreState) → IsRolledBack old new → KeepsCommit old new
rolled_back_keeps old new back = record { was_open = back.was_open; committed = λ is_open. (back.undone is_open).1 }

not_run_keeps : (old new : StoreState) (text : List ℕ) (e : Error) → IsNotRun old new text [] e → KeepsCommit old new
unfolding IsNotRun
not_run_keeps old new text e (inl h) = unchanged_keeps old new h.1
not_run_keeps old new text e (inr h) = rolled_back_keeps old new h.3

-- whether it is or not, nothing is committed
pub taking_reads : {X : Type 0} (Is : X → Type 0) (old new : StoreState) (text : List ℕ) (r : Result X Error) → (HasCleanDisk new → IfOk r (λ s. Is s × IsUnchanged old new)) → (HasCleanDisk new → IfErr r (λ e. (params : Row) → IsNotRun old new text params e))
    → Survives old new (λ _. ⊥) → OnlyReads old new
taking_reads Is old new text (Ok statement) same not_run survives = record { kept = λ clean. unchanged_keeps old new (same clean).1; survives = survives }
taking_reads Is old new text (Err e) same not_run survives = record { kept = λ clean. not_run_keeps old new text e (not_run clean []); survives = survives }

-- ---- what is told

-- what is told for a fault is one of these
pub opening_is : (e : Error) (r : Refusal) → r ≡ opening_refusal e → IsOpeningRefusal r
opening_is (SqlInputError fault) r is = inl is
opening_is (SqliteFailure code.NameTaken) r is = inl is
opening_is (SqliteFailure code.OutOfMemory) r is = inr (inl is)
opening_is (SqliteFailure _) r is = inr (inr is)
opening_is _ r is = inr (inr is)

-- where `Damaged` is told for a fault, it is one of names
pub names_by_damage : (e : Error) → opening_refusal e ≡ refusal.Damaged → IsOfNames e
names_by_damage (SqlInputError fault) is = tt
names_by_damage (SqliteFailure code.NameTaken) is = tt
names_by_damage (SqliteFailure code.OutOfMemory) is = absurd cc
names_by_damage (SqliteFailure _) is = absurd cc
names_by_damage _ is = absurd cc

-- the store is open after a refusal: it is after `Damaged`, and has to be after any other
open_after : (r : Refusal) (new : StoreState) → IsOpeningRefusal r → (r ≡ refusal.Damaged → IsTrue new.is_open) → IsOpenAfter (refused r) new → IsTrue new.is_open
open_after r new (inl is) damaged after = damaged is
open_after r new (inr (inl is)) damaged after = after (ap (λ x. may_have_shut (refused x)) is)
open_after r new (inr (inr is)) damaged after = after (ap (λ x. may_have_shut (refused x)) is)

-- ---- it was refused, `mid`, and then told

module _ (old mid new : StoreState) (telling : OnlyReads mid new) where
  late : HasCleanDisk new → HasCleanDisk mid
  late clean = let it : HasCleanDisk mid = omega (arith, clean, telling.survives.clean) in it

  pub reads_on : OnlyReads old mid → OnlyReads old new
  reads_on reads = record {
    kept = λ clean.
        let second = telling.kept clean in
        let first = reads.kept (late clean) in
        record { was_open = λ is_open. first.was_open (second.was_open is_open); committed = λ is_open. second.committed is_open ∙ first.committed (second.was_open is_open) };
    survives = survives_then old mid new (λ _. ⊥) (λ _. ⊥) (λ _. ⊥) (λ clean trees none. none) (λ clean trees none. none) reads.survives telling.survives;
  }

  pub told_survives : (Commits : Trees → Type 0) → Survives old mid Commits → Survives old new Commits
  told_survives Commits survives = survives_then old mid new Commits (λ _. ⊥) Commits (λ clean trees made. made) (λ clean trees none. absurd none) survives telling.survives

  pub told_kept : (HasCleanDisk mid → IsTrue mid.is_open → IsTrue old.is_open) → HasCleanDisk new → IsTrue new.is_open → IsTrue old.is_open
  told_kept kept clean is_open = kept (late clean) ((telling.kept clean).was_open is_open)

  module _ (told : Refusal) (still : told ≡ refusal.Damaged → HasCleanDisk new → IsTrue new.is_open) where
    -- what was committed stays
    pub told_undone : IsOpeningRefusal told → (HasCleanDisk mid → IsTrue mid.is_open → mid.committed ≡ old.committed) → HasCleanDisk new → IsOpenAfter (refused told) new → new.committed ≡ old.committed
    told_undone is undone clean after =
        let is_open = open_after told new is (λ damaged. still damaged clean) after in
        let kept = telling.kept clean in
        kept.committed is_open ∙ undone (late clean) (kept.was_open is_open)

    module _ (r : Refusal) (same : told ≡ refusal.Damaged → r ≡ refusal.Damaged) where
      -- `Damaged` tells of the tables what it told before
      pub told_damaged : (r ≡ refusal.Damaged → IsClean mid → (version : Version) → mid.committed.schema ≡ schema_of version → HoldsNoStateIn version mid.committed)
          → told ≡ refusal.Damaged → HasCleanDisk new → (version : Version) → new.committed.schema ≡ schema_of version → HoldsNoStateIn version new.committed
      told_damaged none is clean version has =
          let is_open = still is clean in
          let kept = telling.kept clean in
          let stays : new.committed ≡ mid.committed = kept.committed is_open in
          subst (HoldsNoStateIn version) (sym stays) (none (same is) (late clean, kept.was_open is_open) version (ap (λ (db : Database). db.schema) (sym stays) ∙ has))

      -- and of a fault, that it is one of names
      pub told_named : (X : Type 0) (e : Error) → r ≡ opening_refusal e → (HasCleanDisk mid → IsTrue mid.is_open → IsOfNames e → X) → told ≡ refusal.Damaged → HasCleanDisk new → X
      told_named X e is named damaged clean = named (late clean) ((telling.kept clean).was_open (still damaged clean)) (names_by_damage e (sym is ∙ same damaged))
