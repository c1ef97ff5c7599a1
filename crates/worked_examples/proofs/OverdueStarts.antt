-- The latest starts of overdue work, and how they are shown.
use Rattle.std.proofs.Common.{rules, ◌≡◌, refl, pos, negsuc}
use Rattle.std.specs.FinMap.{find, get, get-from_entries}
use Rattle.plan_basics.specs.declared.keys.OpKey.{OpKey}
use Rattle.plan_basics.specs.Keys.{operation_cmp, operation_cmp_total}
use Rattle.plan_model.specs.Starts.{IsLatestStart}
use Rattle.worked_examples.specs.Overdue.{old_at, overdue, overdue_operations, overdue_pairs}
use Rattle.worked_examples.specs.Statements.{LatestStartsOfOverdueWork}
use Rattle.worked_examples.proofs.Starts.{starts_at_end, starts_before}

found_at : (o : OpKey) → get overdue.operations o ≡ find operation_cmp o overdue_operations
found_at o = get-from_entries operation_cmp_total overdue_operations o

latest_20 : IsLatestStart overdue (old_at 20) (pos 10)
latest_20 = starts_at_end overdue overdue_pairs refl (old_at 20) _ (found_at (old_at 20)) refl

latest_10 : IsLatestStart overdue (old_at 10) (negsuc 9)
latest_10 = starts_before overdue overdue_pairs refl (old_at 10) _ (found_at (old_at 10)) (old_at 20) _ _ (found_at (old_at 20)) (λ e. cc) refl refl latest_20 (search rules)

pub latest_starts : LatestStartsOfOverdueWork
latest_starts = (latest_10, latest_20)
