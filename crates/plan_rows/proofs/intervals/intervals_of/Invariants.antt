use Rattle.std.specs.Prelude.{◌≡◌, take}
use Rattle.plan_rows.proofs.intervals.intervals_of.Given as goal
use Rattle.plan_rows.specs.Rows.{all_intervals}

-- those of the first workstations are found
abbrev pub invariant-loop-workstation : goal.invariant-loop-workstation
invariant-loop-workstation l = l.found.items ≡ all_intervals (take l.workstation-index l.workstations)
