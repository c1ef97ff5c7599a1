use Rattle.std.proofs.Common.{◌≡◌, length}
use Rattle.ready_list.specs.Entries.{on_workstation}
use Rattle.ready_list.proofs.on_workstation.OnWorkstationIterator.next.Given as goal

-- only those on other workstations were passed over
abbrev pub invariant-loop-entry : goal.invariant-loop-entry
invariant-loop-entry l = on_workstation l.self-inside.ws l.self-inside.entries.now ≡ l.fn.self

abbrev pub decreases-loop-entry : goal.decreases-loop-entry
decreases-loop-entry l = length l.self-inside.entries.now
