use Rattle.std.proofs.Common.{rules}
use Rattle.plan_drafts.specs.PlanItems.{need_key}
use Rattle.plan_denotation.proofs.needs.needs_in_order.Goals as goal

pub returns : goal.returns
returns c = c.in_key_order.ensures need_key (λ x r h. search rules)
