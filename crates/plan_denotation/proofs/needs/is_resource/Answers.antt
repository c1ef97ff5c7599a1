use Rattle.plan_basics.specs.Keys.{name_cmp_total, name_cmp-IsAntisymmetric}
use Rattle.plan_drafts.proofs.Keyed.{key_told}
use Rattle.plan_denotation.proofs.needs.is_resource.Goals as goal

pub returns : goal.returns
returns c =
    rw c.is_some.ensures (key_told name_cmp_total name_cmp-IsAntisymmetric c.args.resources.now c.args.name.now c.row_place.result c.requires c.row_place.ensures.found c.row_place.ensures.absent)
