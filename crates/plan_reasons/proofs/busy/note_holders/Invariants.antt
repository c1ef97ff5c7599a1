use Rattle.std.proofs.Common.{◌≡◌, ◌++◌, drop}
use Rattle.std.specs.List.{filter_map}
use Rattle.plan_reasons.specs.Places.{obstacle_of}
use Rattle.plan_reasons.proofs.busy.note_holders.Given as goal

-- the reasons so far, and those of the holders that are left, are all
abbrev pub invariant-loop-holder : goal.invariant-loop-holder
invariant-loop-holder l = l.reasons.items ++ filter_map (obstacle_of l.key l.mode) (drop l.holder-index l.holders) ≡ l.fn.reasons.items ++ filter_map (obstacle_of l.key l.mode) l.holders
