use Rattle.std.proofs.Common.{◌≡◌, map, take, Some}
use Rattle.record_faults.proofs.denoting.all_items.Given as goal

-- the items of the records so far
abbrev pub invariant-loop-said : goal.invariant-loop-said
invariant-loop-said l = take l.said-index l.said ≡ map Some l.items.items
