use Rattle.plan_basics.specs.Keys.{name_cmp_total, name_cmp-IsAntisymmetric}
use Rattle.plan_drafts.proofs.Keyed.{key_told}
use Rattle.plan_denotation.proofs.intervals.is_named.Goals as goal

pub returns : goal.returns
returns c =
    rw c.is_some.ensures (key_told name_cmp_total name_cmp-IsAntisymmetric c.args.workstations.now c.args.name.now c.workstation_place.result c.requires c.workstation_place.ensures.found c.workstation_place.ensures.absent)
