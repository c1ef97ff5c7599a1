use Rattle.std.proofs.Common.{◌≡◌, sym, subst, ap, length, Option}
use Rattle.std.specs.FinMap.{keys}
use Rattle.plan_rows.proofs.NewPlaces.{no_keys}
use Rattle.plan_rows.proofs.new_places.operation_count.Goals as goal
use Rattle.plan_rows.specs.Sources.{contents_if_any, source_if_any}
use Rattle.plan_rows.specs.declared.row_sources.TableSource.{TableSource}

pub returns-in-None : goal.returns-in-None
returns-in-None c = subst (λ (s : Option TableSource). 0 ≡ length (keys (contents_if_any (source_if_any s)).operations)) (sym c.in-None.is) (sym (ap length no_keys))
