use Rattle.std.proofs.Common.{◌≡◌, ◌++◌, drop, map}
use Rattle.plan_shows.specs.Resources.{rows_of}
use Rattle.plan_shows.specs.declared.resources.ResourceRow.TheVariants.{Holder}
use Rattle.plan_shows.proofs.resources.note_rows.Given as goal

-- the rows so far, and those of the holders that are left, are all
abbrev pub invariant-loop-holder : goal.invariant-loop-holder
invariant-loop-holder l = l.rows.items ++ map Holder (drop l.holder-index l.holder-items) ≡ l.fn.rows.items ++ rows_of l.view
