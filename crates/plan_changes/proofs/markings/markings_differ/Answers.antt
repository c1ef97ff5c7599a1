use Rattle.plan_changes.proofs.Remarks.{both_ways, differences_follow, holding, marking, nop_made, remaking, stay_in_plan}
use Rattle.plan_changes.proofs.markings.markings_differ.Goals as goal

pub returns : goal.returns
returns c = record { both_ways = both_ways; in_plan = stay_in_plan; follow = differences_follow; remade = remaking; held = holding; nop = nop_made; marked = marking }
