-- Where there is no source there is no row.
use Rattle.std.proofs.Common.{◌≡◌, refl, sym, ℕ, List, [], Option, Some, None, Ordering}
use Rattle.std.specs.Cmp.{IsTotalOrder}
use Rattle.std.specs.FinMap.{empty, entries}
use Rattle.std.specs.List.Sorted.{IsStrictlySortedBy}
use Rattle.plan_model.proofs.Entries.{rows_in_order}
use Rattle.plan_rows.specs.Sources.{contents_if_any, plan_if_any}
use Rattle.plan_rows.specs.declared.row_sources.RowSource.{RowSource}

pub none_ascend : {K : Type 0} (R : K → K → Ordering) → IsStrictlySortedBy R []
unfolding IsStrictlySortedBy
none_ascend R = tt

pub none_kept : {K X : Type 0} {R : K → K → Ordering} → IsTotalOrder R → ◌≡◌ {A = List (K × X)} [] (entries {R = R} empty)
none_kept {R = R} o = sym (rows_in_order o [] (none_ascend R))

-- the plan of a source has its contents
pub contents_of_plan : (clock : ℕ) (source : Option RowSource) → contents_if_any source ≡ (plan_if_any clock source).contents
contents_of_plan clock None = refl
contents_of_plan clock (Some s) = refl
