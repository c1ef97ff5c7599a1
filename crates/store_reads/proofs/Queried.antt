-- What a query of a table leaves, and what it shows.
use Rattle.std.proofs.Common.{◌≡◌, ℕ, List, [], inl, inr, Ok, Err, Result, OnOk, IfOk, IfErr, is_some, Vec, sym, ap, subst, ◌∙◌}
use Rattle.std.proofs.lemmas.Bool.{true≢false}
use Rattle.std.specs.declared.alloc.Global.{Global}
use Rattle.std.specs.List.Sorted.{IsPermutation}
use Rattle.sqlite.specs.Effect.{IsDatabase}
use Rattle.sqlite.specs.Order.{Row}
use Rattle.sqlite.specs.State.{State, HasCleanDisk, IsLive, IsUnchanged, IsRolledBack, IsNotRun, KeepsCommit, Survives, Shown, ShowsRows, FailsToQuery, FailsToShow, CommitsShowing}
use Rattle.sqlite.specs.Tree.{Trees}
use Rattle.sqlite.specs.declared.error.Error.{Error}
use Rattle.sqlite.proofs.StateLemmas.{survives_weaker}
use Rattle.sqlite.specs.Clock.{timed}
use Rattle.store_schema.specs.Schema.{schema_of}
use Rattle.store_schema.specs.declared.texts.Version.{Version}
use Rattle.store_schema.specs.declared.texts.Version.TheVariants.{First, Second}
use Rattle.store_schema.proofs.Metas.{meta_read}
use Rattle.store_schema.proofs.Workstations.{workstation_read}
use Rattle.store_schema.proofs.Intervals.{interval_read}
use Rattle.store_schema.proofs.Resources.{resource_read}
use Rattle.store_schema.proofs.Occurrences.{occurrence_read}
use Rattle.store_schema.proofs.Operations.{operation_read}
use Rattle.store_schema.proofs.Dependencies.{dependency_read}
use Rattle.store_schema.proofs.Needs.{need_read}
use Rattle.store_schema.proofs.Quantities.{quantity_read}
use Rattle.store_schema.proofs.Amounts.{amount_read}
use Rattle.store_schema.proofs.Receipts.{receipt_read}
use Rattle.store_schema.proofs.FirstReads.{meta_read_first, workstation_read_first, interval_read_first, resource_read_first, occurrence_read_first, operation_read_first, dependency_read_first, need_read_first, receipt_read_first}
use Rattle.store_schema.specs.declared.texts.TheConstants.{READ_RECEIPT}
use Rattle.store_reads.specs.declared.decoding.Table.{Table}
use Rattle.store_reads.specs.declared.decoding.Table.TheVariants as table
use Rattle.store_reads.specs.Reads.{OnlyReads}
use Rattle.store_reads.specs.Tables.{IsIn, receipt_rows, rows_of, text_for}
use Rattle.store_reads.proofs.QueryTexts.{IsQuery, shows_alone}

-- ---- what it leaves

pub unchanged_keeps : (old new : State) → IsUnchanged old new → KeepsCommit old new
unchanged_keeps old new same = record { was_open = λ _. same.0.was_open; committed = λ _. same.0.committed_is }

rolled_back_keeps : (old new : State) → IsRolledBack old new → KeepsCommit old new
rolled_back_keeps old new back = record { was_open = back.was_open; committed = λ is_open. (back.undone is_open).1 }

module _ (text : List ℕ) (query : IsQuery text) (old new : State) where
  -- what is shown changes nothing
  pub shown_leaves : (rows : List Row) → Shown text [] old new rows → IsUnchanged old new
  unfolding Shown
  shown_leaves rows h =
      let none = shows_alone text query old.now.schema h.0 h.1.is in
      (subst (ShowsRows old new text h.0 (timed [] h.0.formats h.1.now) rows) none h.2).3

  not_run_keeps : (e : Error) → IsNotRun old new text [] e → KeepsCommit old new
  unfolding IsNotRun
  not_run_keeps e (inl h) = unchanged_keeps old new h.1
  not_run_keeps e (inr h) = rolled_back_keeps old new h.3

  -- what fails commits nothing
  failed_keeps : (e : Error) → FailsToQuery text [] old new e → KeepsCommit old new
  unfolding FailsToQuery
  failed_keeps e (inl h) = not_run_keeps e h
  failed_keeps e (inr h) =
      let none = shows_alone text query old.now.schema h.0 h.1.is in
      unchanged_keeps old new (subst (FailsToShow old new text h.0 (timed [] h.0.formats h.1.now) e) none h.2).3

  never : (db : Trees) → ¬ CommitsShowing text [] old db
  unfolding CommitsShowing
  never db h = true≢false (sym h.2 ∙ ap is_some (shows_alone text query old.now.schema h.0 h.1.is))

  -- whatever is answered, nothing is committed
  pub only_reads : (r : Result (Vec Row Global) Error) → (HasCleanDisk new → IfOk r (λ rows. Shown text [] old new rows.items)) → (HasCleanDisk new → IfErr r (FailsToQuery text [] old new))
      → Survives old new (CommitsShowing text [] old) → OnlyReads old new
  only_reads r ok err survives = record {
    kept = λ clean. keeps r (ok clean) (err clean);
    survives = survives_weaker old new _ (λ _. ⊥) (λ _ db. never db) survives;
  }
    where
      keeps : (r : Result (Vec Row Global) Error) → IfOk r (λ rows. Shown text [] old new rows.items) → IfErr r (FailsToQuery text [] old new) → KeepsCommit old new
      keeps (Ok rows) h k = unchanged_keeps old new (shown_leaves rows.items h)
      keeps (Err e) h k = failed_keeps e k

  pub same_shown : (r : Result (Vec Row Global) Error) → IfOk r (λ rows. Shown text [] old new rows.items) → OnOk r (IsUnchanged old new)
  same_shown (Ok rows) h = shown_leaves rows.items h
  same_shown (Err e) h = tt

-- ---- what it shows

-- the rows that are shown are those of the table
pub rows_shown : (version : Version) (t : Table) → IsIn version t → (old new : State) (rows : List Row) → IsDatabase old.now → old.now.schema ≡ schema_of version → Shown (text_for t) [] old new rows → IsPermutation (rows_of t old.now.trees) rows
rows_shown First table.Meta is old new rows sound has shown = meta_read_first old new rows has shown
rows_shown First table.Workstation is old new rows sound has shown = workstation_read_first old new rows sound has shown
rows_shown First table.Interval is old new rows sound has shown = interval_read_first old new rows sound has shown
rows_shown First table.Resource is old new rows sound has shown = resource_read_first old new rows sound has shown
rows_shown First table.Occurrence is old new rows sound has shown = occurrence_read_first old new rows sound has shown
rows_shown First table.Operation is old new rows sound has shown = operation_read_first old new rows sound has shown
rows_shown First table.Dependency is old new rows sound has shown = dependency_read_first old new rows sound has shown
rows_shown First table.Need is old new rows sound has shown = need_read_first old new rows sound has shown
rows_shown First table.Quantity is old new rows sound has shown = absurd is
rows_shown First table.Amount is old new rows sound has shown = absurd is
rows_shown Second table.Meta is old new rows sound has shown = meta_read old new rows has shown
rows_shown Second table.Workstation is old new rows sound has shown = workstation_read old new rows sound has shown
rows_shown Second table.Interval is old new rows sound has shown = interval_read old new rows sound has shown
rows_shown Second table.Resource is old new rows sound has shown = resource_read old new rows sound has shown
rows_shown Second table.Occurrence is old new rows sound has shown = occurrence_read old new rows sound has shown
rows_shown Second table.Operation is old new rows sound has shown = operation_read old new rows sound has shown
rows_shown Second table.Dependency is old new rows sound has shown = dependency_read old new rows sound has shown
rows_shown Second table.Need is old new rows sound has shown = need_read old new rows sound has shown
rows_shown Second table.Quantity is old new rows sound has shown = quantity_read old new rows sound has shown
rows_shown Second table.Amount is old new rows sound has shown = amount_read old new rows sound has shown

pub receipts_shown : (version : Version) (old new : State) (rows : List Row) → IsDatabase old.now → old.now.schema ≡ schema_of version → Shown READ_RECEIPT.now [] old new rows → IsPermutation (receipt_rows old.now.trees) rows
receipts_shown First = receipt_read_first
receipts_shown Second = receipt_read

-- what is answered are these rows, where whatever the text shows are these
pub all_shown : (text : List ℕ) → IsQuery text → (old new : State) (there : List Row) → ((rows : List Row) → IsDatabase old.now → Shown text [] old new rows → IsPermutation there rows) → (r : Result (Vec Row Global) Error) → IsLive old → IfOk r (λ rows. Shown text [] old new rows.items)
    → IfOk r (λ rows. IsPermutation there rows.items)
all_shown text query old new there are (Ok rows) live h =
    let was = (shown_leaves text query old new rows.items h).0.was_open in
    are rows.items (live was).0 h
all_shown text query old new there are (Err e) live h = tt
