-- Reads of the nine tables of the first version.
use Rattle.std.proofs.Common.{◌≡◌, ◌<◌, ◌^◌, nat_le, ℕ, List, [], map, length, inl, inr, refl, sym, subst, true, false, arith}
use Rattle.std.proofs.lemmas.List.{length-map}
use Rattle.std.specs.List.{AllByRecursion}
use Rattle.std.specs.List.Sorted.{IsPermutation}
use Rattle.sqlite.specs.Command.{Command}
use Rattle.sqlite.specs.Effect.{IsDatabase}
use Rattle.sqlite.specs.Listing.{understood, reads_listing}
use Rattle.sqlite.specs.Order.{Row}
use Rattle.sqlite.specs.State.{State, Shown}
use Rattle.sqlite.specs.Table.{Table}
use Rattle.sqlite.proofs.Callers.{IsPlain, command_of}
use Rattle.sqlite_rules.specs.Lists.{Has}
use Rattle.sqlite_schema.specs.declared.schema.Column.{Column}
use Rattle.sqlite_tied.specs.Compute.{everything}
use Rattle.store_schema.specs.Commands.{select, select_by_rowid}
use Rattle.store_schema.specs.Rows.{shown_by_rowid}
use Rattle.store_schema.specs.Tables.{placed}
use Rattle.store_schema.proofs.Reading.{rows_read, rows_read_by_rowid, row_width}
use Rattle.store_schema.specs.Schema.{first_schema, workstation, interval, resource, occurrence, operation, dependency, need, receipt}
use Rattle.store_schema.specs.declared.texts.TheConstants.{READ_META, READ_WORKSTATION, READ_INTERVAL, READ_RESOURCE, READ_OCCURRENCE, READ_OPERATION, READ_DEPENDENCY, READ_NEED, READ_RECEIPT}
use Rattle.store_schema.proofs.MetaTexts.{names}
use Rattle.store_schema.proofs.Tables.{names_of}

-- in the schema of the first version the text is this command and no more
pub record MeansFirst (sql : List ℕ) (command : Command) : Type 0 where
  pub is : command_of (understood first_schema sql) ≡ command
  pub plain : IsPlain (understood first_schema sql)
  pub unlisted : reads_listing first_schema sql ≡ false

module _ (t : Table) (key tree : ℕ) (low : nat_le (2 ^ 31) tree ≡ false) (listed : Has first_schema.tables (placed t.name t.columns key tree)) (filled : AllByRecursion (λ (c : Column). c.not_null ≡ true) t.columns) (wide : 0 < length t.columns) where
  all_read : {sql : List ℕ} → MeansFirst sql (select tree (names_of t)) → (old new : State) (rows : List Row) → IsDatabase old.now → old.now.schema ≡ first_schema → Shown sql [] old new rows → IsPermutation (old.now.trees tree) rows
  all_read {sql} means old new rows sound has = rows_read first_schema sql tree (names_of t) low means.is means.plain means.unlisted old new rows has
      (λ r there. omega (arith, length-map t.columns (λ (c : Column). c.name), row_width old.now sound t.name t.columns key tree (subst (λ s. Has s.tables (placed t.name t.columns key tree)) (sym has) listed) filled wide r there))

meta_means : MeansFirst READ_META.now (select_by_rowid 0 names)
unfolding understood everything
meta_means = record { is = refl; plain = (refl, refl); unlisted = refl }

pub meta_read_first : (old new : State) (rows : List Row) → old.now.schema ≡ first_schema → Shown READ_META.now [] old new rows → IsPermutation (map (shown_by_rowid 5) (old.now.trees 0)) rows
meta_read_first old new rows has shown = rows_read_by_rowid first_schema READ_META.now 0 names refl meta_means.is meta_means.plain meta_means.unlisted old new rows has shown

workstation_means : MeansFirst READ_WORKSTATION.now (select 1 (names_of workstation))
unfolding understood everything
workstation_means = record { is = refl; plain = (refl, refl); unlisted = refl }

pub workstation_read_first : (old new : State) (rows : List Row) → IsDatabase old.now → old.now.schema ≡ first_schema → Shown READ_WORKSTATION.now [] old new rows → IsPermutation (old.now.trees 1) rows
workstation_read_first = all_read workstation 1 1 refl (inr (inl refl)) (refl, (refl, tt)) (omega arith) workstation_means

interval_means : MeansFirst READ_INTERVAL.now (select 3 (names_of interval))
unfolding understood everything
interval_means = record { is = refl; plain = (refl, refl); unlisted = refl }

pub interval_read_first : (old new : State) (rows : List Row) → IsDatabase old.now → old.now.schema ≡ first_schema → Shown READ_INTERVAL.now [] old new rows → IsPermutation (old.now.trees 3) rows
interval_read_first = all_read interval 2 3 refl (inr (inr (inl refl))) (refl, (refl, (refl, (refl, (refl, (refl, tt)))))) (omega arith) interval_means

resource_means : MeansFirst READ_RESOURCE.now (select 5 (names_of resource))
unfolding understood everything
resource_means = record { is = refl; plain = (refl, refl); unlisted = refl }

pub resource_read_first : (old new : State) (rows : List Row) → IsDatabase old.now → old.now.schema ≡ first_schema → Shown READ_RESOURCE.now [] old new rows → IsPermutation (old.now.trees 5) rows
resource_read_first = all_read resource 1 5 refl (inr (inr (inr (inl refl)))) (refl, (refl, tt)) (omega arith) resource_means

occurrence_means : MeansFirst READ_OCCURRENCE.now (select 7 (names_of occurrence))
unfolding understood everything
occurrence_means = record { is = refl; plain = (refl, refl); unlisted = refl }

pub occurrence_read_first : (old new : State) (rows : List Row) → IsDatabase old.now → old.now.schema ≡ first_schema → Shown READ_OCCURRENCE.now [] old new rows → IsPermutation (old.now.trees 7) rows
occurrence_read_first = all_read occurrence 2 7 refl (inr (inr (inr (inr (inl refl))))) (refl, (refl, (refl, (refl, (refl, tt))))) (omega arith) occurrence_means

operation_means : MeansFirst READ_OPERATION.now (select 9 (names_of operation))
unfolding understood everything
operation_means = record { is = refl; plain = (refl, refl); unlisted = refl }

pub operation_read_first : (old new : State) (rows : List Row) → IsDatabase old.now → old.now.schema ≡ first_schema → Shown READ_OPERATION.now [] old new rows → IsPermutation (old.now.trees 9) rows
operation_read_first = all_read operation 3 9 refl (inr (inr (inr (inr (inr (inl refl)))))) (refl, (refl, (refl, (refl, (refl, (refl, (refl, (refl, (refl, (refl, (refl, (refl, (refl, (refl, (refl, (refl, tt)))))))))))))))) (omega arith) operation_means

dependency_means : MeansFirst READ_DEPENDENCY.now (select 11 (names_of dependency))
unfolding understood everything
dependency_means = record { is = refl; plain = (refl, refl); unlisted = refl }

pub dependency_read_first : (old new : State) (rows : List Row) → IsDatabase old.now → old.now.schema ≡ first_schema → Shown READ_DEPENDENCY.now [] old new rows → IsPermutation (old.now.trees 11) rows
dependency_read_first = all_read dependency 6 11 refl (inr (inr (inr (inr (inr (inr (inl refl))))))) (refl, (refl, (refl, (refl, (refl, (refl, tt)))))) (omega arith) dependency_means

need_means : MeansFirst READ_NEED.now (select 13 (names_of need))
unfolding understood everything
need_means = record { is = refl; plain = (refl, refl); unlisted = refl }

pub need_read_first : (old new : State) (rows : List Row) → IsDatabase old.now → old.now.schema ≡ first_schema → Shown READ_NEED.now [] old new rows → IsPermutation (old.now.trees 13) rows
need_read_first = all_read need 4 13 refl (inr (inr (inr (inr (inr (inr (inr (inl refl)))))))) (refl, (refl, (refl, (refl, (refl, (refl, tt)))))) (omega arith) need_means

receipt_means : MeansFirst READ_RECEIPT.now (select 15 (names_of receipt))
unfolding understood everything
receipt_means = record { is = refl; plain = (refl, refl); unlisted = refl }

pub receipt_read_first : (old new : State) (rows : List Row) → IsDatabase old.now → old.now.schema ≡ first_schema → Shown READ_RECEIPT.now [] old new rows → IsPermutation (old.now.trees 15) rows
receipt_read_first = all_read receipt 1 15 refl (inr (inr (inr (inr (inr (inr (inr (inr (inl refl))))))))) (refl, (refl, (refl, (refl, tt)))) (omega arith) receipt_means
