use Rattle.std.proofs.Common.{◌≡◌, take}
use Rattle.plan_drafts.proofs.contents.copies_of.Given as goal

-- those before the index are copied
abbrev pub invariant-loop-workstation : goal.invariant-loop-workstation
invariant-loop-workstation l = l.copies.items ≡ take l.workstation-index l.workstations
