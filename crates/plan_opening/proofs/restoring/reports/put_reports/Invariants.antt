use Rattle.std.proofs.Common.{◌≡◌, take}
use Rattle.plan_model.specs.Valid.{IsValid}
use Rattle.plan_opening.specs.Restoring.{reported}
use Rattle.plan_opening.proofs.restoring.reports.put_reports.Given as goal

-- the operations of the rows before the index have what these say
abbrev pub invariant-loop-row : goal.invariant-loop-row
invariant-loop-row l = (l.contents ≡ reported (take l.row-index l.rows) l.fn.contents) × IsValid l.contents
