use Rattle.plan_basics.specs.Keys.{operation_cmp_total, operation_cmp-IsAntisymmetric}
use Rattle.plan_drafts.proofs.KeyPlaces.{tied_at}
use Rattle.plan_drafts.proofs.graphs.place_near.Goals as goal

pub returns-then-is_eq : goal.returns-then-is_eq
returns-then-is_eq c =
    tied_at operation_cmp_total operation_cmp-IsAntisymmetric c.args.keys.now c.args.near c.args.key.now c.index-keys-near.result c.if-near-keys.true c.index-keys-near.is
    c.order.result c.order.ensures c.if-is_eq.ensures
