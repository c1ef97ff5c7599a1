-- Why a table can't be read: where the schema is that of a version, never since its text is refused.
use Rattle.std.proofs.Common.{◌≡◌, ℕ, inl, inr, refl, sym, ap, subst, ◌∙◌, List, Option, Result, Ok, Err, IfErr, IsTrue, [], Vec, codes, is_some, true, false}
use Rattle.std.proofs.lemmas.Bool.{true≢false}
use Rattle.std.specs.declared.alloc.Global.{Global}
use Rattle.sqlite.proofs.Callers.{IsPlain}
use Rattle.sqlite.specs.Clock.{timed}
use Rattle.sqlite.specs.Command.{Command}
use Rattle.sqlite.specs.Command.TheVariants.{Select, Rows}
use Rattle.sqlite.specs.Effect.{Database, RefusesToRead}
use Rattle.sqlite.specs.Listing.{understood}
use Rattle.sqlite.specs.Order.{Row}
use Rattle.sqlite.specs.State.{State, FailsToQuery, FailsToShow, IsNotRun, KeepsCommit, store_error}
use Rattle.sqlite.specs.declared.error.Error.{Error}
use Rattle.sqlite_schema.specs.Names.{table_named}
use Rattle.sqlite_schema.specs.declared.schema.Schema.{Schema}
use Rattle.sqlite_resolve.specs.declared.error.CompileError.{CompileError}
use Rattle.sqlite_tied.specs.Compute.{everything}
use Rattle.sqlite_trees.specs.declared.error.StoreError.{StoreError}
use Rattle.sqlite_trees.specs.declared.error.StoreError.TheVariants.{OutOfMemory, Io, Corrupt, Full, Broken, Unstorable}
use Rattle.store_schema.specs.Schema.{schema_of}
use Rattle.store_schema.specs.declared.texts.TheConstants.{READ_RECEIPT}
use Rattle.store_schema.specs.declared.texts.Version.{Version}
use Rattle.store_schema.specs.declared.texts.Version.TheVariants.{First, Second}
use Rattle.store_reads.specs.declared.decoding.Table.{Table}
use Rattle.store_reads.specs.declared.decoding.Table.TheVariants as table
use Rattle.store_reads.specs.Reads.{IsNotOfTables}
use Rattle.store_reads.specs.Versions.{has_quantity}
use Rattle.store_reads.specs.Tables.{IsIn, text_for}
use Rattle.store_reads.proofs.QueryTexts.{IsQuery, shows_alone}

-- ---- what isn't the tables' fault

-- a failure of the store
failure_is_other : (cause : StoreError) → IsNotOfTables (store_error cause)
failure_is_other OutOfMemory = tt
failure_is_other Io = tt
failure_is_other Corrupt = tt
failure_is_other Full = tt
failure_is_other Broken = tt
failure_is_other Unstorable = tt

-- what a query that is run may be refused for
query_is_other : (limit : Option ℕ) (command : Command) (db : Database) (params : Row) (e : Error) → RefusesToRead limit command db params e → IsNotOfTables e
query_is_other limit (Select q names) db params e (inl h) = subst IsNotOfTables (sym h.0) tt
query_is_other limit (Select q names) db params e (inr (inl h)) = subst IsNotOfTables (sym h.0) tt
query_is_other limit (Select q names) db params e (inr (inr h)) = subst IsNotOfTables (sym h.0) tt
query_is_other limit (Rows values width names) db params e h = subst IsNotOfTables (sym h.0) tt
query_is_other limit _ db params e h = subst IsNotOfTables (sym h) tt

-- ---- the texts

pub each_plain : (version : Version) (t : Table) → IsIn version t → IsPlain (understood (schema_of version) (text_for t))
unfolding understood everything
each_plain First table.Quantity is = absurd is
each_plain First table.Amount is = absurd is
each_plain First table.Meta is = (refl, refl)
each_plain First _ is = (refl, refl)
each_plain Second table.Meta is = (refl, refl)
each_plain Second _ is = (refl, refl)

pub receipts_plain : (version : Version) → IsPlain (understood (schema_of version) READ_RECEIPT.now)
unfolding understood everything
receipts_plain First = (refl, refl)
receipts_plain Second = (refl, refl)

module _ (text : List ℕ) (query : IsQuery text) (schema : Schema) (plain : IsPlain (understood schema text)) (old new : State) (has : old.now.schema ≡ schema) where
  -- none is refused
  not_refused : (fault : CompileError) → ¬ (understood old.now.schema text ≡ Err fault)
  not_refused fault is = subst IsPlain (sym (ap (λ s. understood s text) has) ∙ is) plain

  not_run_is_other : (e : Error) → IsNotRun old new text [] e → IsNotOfTables e
  unfolding IsNotRun
  not_run_is_other e (inl (inl h, same)) = absurd (not_refused h.0 h.1)
  not_run_is_other e (inl (inr (c, is, inl h), same)) = subst IsNotOfTables (sym h.1) tt
  not_run_is_other e (inl (inr (c, is, inr (inl h)), same)) = subst IsNotOfTables (sym h.1) tt
  not_run_is_other e (inl (inr (c, is, inr (inr h)), same)) = subst IsNotOfTables (sym h.1) tt
  not_run_is_other e (inr h) = subst IsNotOfTables (sym h.1) (failure_is_other h.0)

  fault_is_other : (e : Error) → FailsToQuery text [] old new e → IsNotOfTables e
  unfolding FailsToQuery
  fault_is_other e (inl h) = not_run_is_other e h
  fault_is_other e (inr h) =
      let none = shows_alone text query old.now.schema h.0 h.1.is in
      let params = timed [] h.0.formats h.1.now in
      let refused = subst (FailsToShow old new text h.0 params e) none h.2 in
      query_is_other old.step_limit h.0.command refused.0 params e refused.2

  pub query_faults : (r : Result (Vec Row Global) Error) → IfErr r (FailsToQuery text [] old new) → IfErr r IsNotOfTables
  query_faults (Ok rows) h = tt
  query_faults (Err e) h = fault_is_other e h

-- ---- all tables

-- each schema has the table `meta`
pub meta_named : (version : Version) → IsTrue (is_some (table_named (schema_of version) (codes "meta")))
unfolding everything
meta_named First = refl
meta_named Second = refl

-- and the second alone the table `quantity`
pub quantity_named : (version : Version) → is_some (table_named (schema_of version) (codes "quantity")) ≡ has_quantity version
unfolding everything
quantity_named First = refl
quantity_named Second = refl

-- so it tells the version
pub second_by : (version : Version) → true ≡ has_quantity version → Second ≡ version
second_by First e = absurd (true≢false e)
second_by Second e = refl

pub first_by : (version : Version) → false ≡ has_quantity version → First ≡ version
first_by First e = refl
first_by Second e = absurd (true≢false (sym e))

-- outside a transaction the schema that is committed is the one that was read by
pub committed_faults : {X : Type 0} (schema : Schema) (old new : State) (r : Result X Error) → (IsTrue old.is_open → old.now ≡ old.committed) → KeepsCommit old new → IsTrue new.is_open → (old.now.schema ≡ schema → IfErr r IsNotOfTables)
    → new.committed.schema ≡ schema → IfErr r IsNotOfTables
committed_faults schema old new r settled kept is_open faults has =
    let same : new.committed ≡ old.now = kept.committed is_open ∙ sym (settled (kept.was_open is_open)) in
    faults (ap (λ (db : Database). db.schema) (sym same) ∙ has)
