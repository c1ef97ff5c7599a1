-- The operations in error, as an operator is shown them.
use Rattle.std.specs.Prelude.{◌≡◌, ◌↔◌, List, map, Contains, Option, Some, None}
use Rattle.std.specs.FinMap.{get}
use Rattle.std.specs.List.{filter_map}
use Rattle.std.specs.List.Sorted.{IsStrictlySortedBy}
use Rattle.plan_basics.specs.Keys.{operation_cmp}
use Rattle.plan_core.specs.declared.views.OpView.{OpView}
use Rattle.plan_model.specs.Contents.{Contents, Operation}
use Rattle.plan_model.specs.Status.{HasStatus}
use Rattle.status_rules.specs.declared.Mark.{Mark}
use Rattle.status_rules.specs.declared.Mark.TheVariants as mark
use Rattle.status_rules.specs.declared.Status.TheVariants as status
use Rattle.desk_tables.specs.declared.errors.ErrorRow.{ErrorRow}

-- an operation of status E, with its workstation and the code of its error
pub record IsErrorRow (P : Contents) (r : ErrorRow) : Type 0 where
  pub op : Operation
  pub is_in_plan : get P.operations r.op ≡ Some op
  pub status : HasStatus P r.op status.Error
  pub workstation : r.ws ≡ op.workstation
  pub code : op.mark ≡ mark.Error r.code

-- all operations in error, in key order
pub record AreErrorRows (P : Contents) (rows : List ErrorRow) : Type 0 where
  pub in_order : IsStrictlySortedBy operation_cmp (map (λ r. r.op) rows)
  pub every : (r : ErrorRow) → Contains rows r ↔ IsErrorRow P r

-- the row of an operation with this mark, if it is an error
abbrev pub row_with : OpView → Mark → Option ErrorRow
row_with v (mark.Error code) = Some (record { op = v.key; ws = v.workstation; code = code })
row_with v _ = None

-- the rows of these operations that are in error
abbrev pub error_rows : List OpView → List ErrorRow
error_rows views = filter_map (λ v. row_with v v.mark) views
