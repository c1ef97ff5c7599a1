use Rattle.std.proofs.Common.{◌≡◌, ◌++◌, drop}
use Rattle.std.specs.Prelude.{flat_map}
use Rattle.plan_shows.specs.Resources.{rows_of}
use Rattle.plan_shows.proofs.resources.resource_rows.Given as goal

-- the rows so far, and those of the resources that are left, are all
abbrev pub invariant-loop-view : goal.invariant-loop-view
invariant-loop-view l = l.rows.items ++ flat_map rows_of (drop l.view-index l.views) ≡ flat_map rows_of l.views
