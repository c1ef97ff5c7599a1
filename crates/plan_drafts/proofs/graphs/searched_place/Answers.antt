use Rattle.plan_basics.specs.Keys.{operation_cmp_total, operation_cmp-IsAntisymmetric}
use Rattle.plan_drafts.proofs.KeyPlaces.{searched}
use Rattle.plan_drafts.proofs.graphs.searched_place.Goals as goal

pub returns : goal.returns
returns c =
    searched operation_cmp_total operation_cmp-IsAntisymmetric c.args.keys.now c.args.key.now c.binary_search.result c.binary_search.ensures.bound c.binary_search.ensures.position c.requires
    c.ok.result c.ok.ensures.value
