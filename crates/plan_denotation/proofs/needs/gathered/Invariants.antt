use Rattle.std.proofs.Common.{◌≡◌, ◌≤◌, map, take}
use Rattle.plan_basics.specs.declared.limits.TheConstants.{MOST_NEEDS}
use Rattle.plan_items.specs.special_resources.specs.Needs.{usages_of}
use Rattle.plan_denotation.proofs.OwnNeeds.{said_need}
use Rattle.plan_denotation.proofs.needs.gathered.Given as goal

abbrev pub invariant-loop-said : goal.invariant-loop-said
invariant-loop-said l = record { few : l.said-index ≤ MOST_NEEDS; so_far : l.needs ≡ usages_of (map said_need (take l.said-index l.said)) }
