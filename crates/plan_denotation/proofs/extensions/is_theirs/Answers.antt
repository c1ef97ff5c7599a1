use Rattle.plan_basics.specs.Keys.{occurrence_cmp_total, occurrence_cmp-IsAntisymmetric}
use Rattle.plan_drafts.proofs.Keyed.{key_told}
use Rattle.plan_denotation.proofs.extensions.is_theirs.Goals as goal

pub returns : goal.returns
returns c =
    rw c.is_some.ensures (key_told occurrence_cmp_total occurrence_cmp-IsAntisymmetric c.args.occurrences.now c.args.key.now c.row_place.result c.requires c.row_place.ensures.found c.row_place.ensures.absent)
