use Rattle.std.proofs.Common.{◌≡◌, map, take}
use Rattle.std.specs.List.{AllWithin}
use Rattle.plan_drafts.specs.PlanItems.{CanOpen, opened_in}
use Rattle.plan_denotation.proofs.intervals.all_opened.Given as goal

abbrev pub invariant-loop-said : goal.invariant-loop-said
invariant-loop-said l = AllWithin (CanOpen l.intervals) l.said 0 l.said-index × (l.workstations.items ≡ map (opened_in l.intervals) (take l.said-index l.said))
