use Rattle.plan_basics.specs.Keys.{operation_cmp_total, operation_cmp-IsAntisymmetric}
use Rattle.plan_drafts.proofs.Orders.{search_told}
use Rattle.plan_denotation.proofs.in_order.is_among.Goals as goal

pub returns : goal.returns
returns c = rw c.is_ok.ensures.value (search_told operation_cmp_total operation_cmp-IsAntisymmetric c.args.keys.now c.args.key.now c.binary_search.result c.binary_search.ensures.bound c.binary_search.ensures.position c.requires)
