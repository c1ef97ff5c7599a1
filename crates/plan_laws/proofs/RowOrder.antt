-- Rows in the order of their keys.
use Rattle.std.proofs.Common.{◌≡◌, List, [], ◌∷◌, map, Less}
use Rattle.std.specs.Cmp.{on_total}
use Rattle.std.specs.List.{AllByRecursion}
use Rattle.std.specs.List.Sorted.{IsStrictlySortedBy}
use Rattle.plan_laws.proofs.Sorted.{sorted_unique}
use Rattle.plan_laws.specs.Tables.{OneListOfChanges}
use Rattle.plan_records.specs.Rows.{key_of, row_cmp}
use Rattle.plan_records.specs.declared.PlanRow.{PlanRow}
use Rattle.plan_records.specs.plan_drafts.specs.RowKeys.{row_cmp_total}
use Rattle.plan_records.specs.plan_drafts.specs.declared.RowKey.{RowKey}

pub keys_above : (k : RowKey) (rows : List PlanRow) → AllByRecursion (λ l. row_cmp k l ≡ Less) (map key_of rows) → AllByRecursion (λ r. row_cmp k (key_of r) ≡ Less) rows
keys_above k [] h = tt
keys_above k (r ∷ rows) h = (h.0, keys_above k rows h.1)

rows_ascend : (rows : List PlanRow) → IsStrictlySortedBy row_cmp (map key_of rows) → IsStrictlySortedBy (λ a b. row_cmp (key_of a) (key_of b)) rows
unfolding IsStrictlySortedBy
rows_ascend [] h = tt
rows_ascend (r ∷ rows) h = (keys_above (key_of r) rows h.0, rows_ascend rows h.1)

-- the rows and keys that change are one list each
pub one_list_of_changes : OneListOfChanges
one_list_of_changes P Q rows others gone more x y = (
  sorted_unique (on_total key_of row_cmp_total) rows others (rows_ascend rows x.rows_ascend) (rows_ascend others y.rows_ascend) (λ r h. (y.has_rows r).1 ((x.has_rows r).0 h)) (λ r h. (x.has_rows r).1 ((y.has_rows r).0 h)),
  sorted_unique row_cmp_total gone more x.gone_ascend y.gone_ascend (λ k h. (y.has_gone k).1 ((x.has_gone k).0 h)) (λ k h. (x.has_gone k).1 ((y.has_gone k).0 h)),
)
