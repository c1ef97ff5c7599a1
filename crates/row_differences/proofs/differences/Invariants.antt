use Rattle.std.proofs.Common.{◌-◌, ◌+◌}
use Rattle.row_differences.proofs.Merging.{IsMergedTo}
use Rattle.row_differences.proofs.differences.Given as goal

-- what is passed is merged
abbrev pub invariant-loop-old : goal.invariant-loop-old
invariant-loop-old g l = IsMergedTo g.T.Key.Ord.cmp (g.T.TwoTables.before l.tables) (g.T.TwoTables.after l.tables) (g.T.TwoTables.IsAlike l.tables) l.old l.new l.changed.items l.gone.items

abbrev pub decreases-loop-old : goal.decreases-loop-old
decreases-loop-old g l = (l.rows_before - l.old) + (l.rows_after - l.new)
