use Rattle.std.proofs.Common.{All, take}
use Rattle.plan_opening.proofs.Metas.{IsNoMeta}
use Rattle.plan_opening.proofs.restoring.meta.meta_of_rows.Given as goal

-- none of the rows before the index is that of the plan
abbrev pub invariant-loop-row : goal.invariant-loop-row
invariant-loop-row l = All IsNoMeta (take l.row-index l.rows)
