use Rattle.std.proofs.Common.{◌≡◌, map, take}
use Rattle.std.specs.List.{AllWithin}
use Rattle.plan_drafts.specs.PlanItems.{BelongsTo, row_of}
use Rattle.plan_denotation.proofs.in_order.rows.Given as goal

abbrev pub invariant-loop-said : goal.invariant-loop-said
invariant-loop-said l = AllWithin (BelongsTo l.occurrences l.needs) l.said 0 l.said-index × (l.rows.items ≡ map (row_of l.occurrences l.needs) (take l.said-index l.said))
