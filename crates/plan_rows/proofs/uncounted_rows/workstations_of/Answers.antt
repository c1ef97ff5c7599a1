use Rattle.std.proofs.Common.{◌≡◌, sym, subst, [], Option}
use Rattle.std.specs.FinMap.{entries}
use Rattle.plan_basics.specs.Keys.{name_cmp, name_cmp_total}
use Rattle.plan_rows.proofs.NoRows.{none_ascend, none_kept}
use Rattle.plan_rows.specs.Sources.{contents_if_any, source_if_any}
use Rattle.plan_rows.specs.declared.row_sources.TableSource.{TableSource}
use Rattle.plan_rows.proofs.uncounted_rows.workstations_of.Goals as goal

pub returns-in-None-clause-rows : goal.returns-in-None-clause-rows
returns-in-None-clause-rows c = subst (λ (s : Option TableSource). [] ≡ entries (contents_if_any (source_if_any s)).workstations) (sym c.in-None.is) (none_kept name_cmp_total)

pub returns-in-None-clause-in_order : goal.returns-in-None-clause-in_order
returns-in-None-clause-in_order c = none_ascend name_cmp
