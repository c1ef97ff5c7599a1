use Rattle.plan_denotation.proofs.Unique.{one_plan, one_plan_of_items, one_extension, one_addition}
use Rattle.plan_denotation.proofs.one_denotation.Goals as goal

pub returns : goal.returns
returns c = record { plan = one_plan; items = one_plan_of_items; extension = one_extension; addition = one_addition }
