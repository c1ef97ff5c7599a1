-- Lists of rows that are compared are equal exactly where they are the same.
use Rattle.std.proofs.Common.{◌≡◌, ◌↔◌, Bool, IsTrue, List}
use Rattle.std.specs.Cmp.Lexicographic.{pointwise}
use Rattle.std.proofs.lemmas.Slice.Eq.{slice_eq-Decides}
use Rattle.plan_records.proofs.RowEquality.{equal_rows}
use Rattle.plan_records.specs.declared.PlanRow.{PlanRow}
use Rattle.plan_records.specs.contracts.PlanRowPartialEq.TheImpl as derived

pub same_rows : (rows others : List PlanRow) (r : Bool) → r ≡ pointwise derived.ghosts.eq rows others → IsTrue r ↔ (rows ≡ others)
same_rows rows others r e = slice_eq-Decides equal_rows rows others r e
