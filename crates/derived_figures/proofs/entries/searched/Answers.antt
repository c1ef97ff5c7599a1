use Rattle.std.specs.Cmp.{nat_cmp_total}
use Rattle.std.specs.FinMap.{nat_cmp-IsAntisymmetric}
use Rattle.start_choice.specs.plan_drafts.proofs.KeyPlaces.{searched}
use Rattle.derived_figures.proofs.entries.searched.Goals as goal

pub returns : goal.returns
returns c =
    searched nat_cmp_total nat_cmp-IsAntisymmetric c.args.places.now c.args.place c.binary_search.result c.binary_search.ensures.bound c.binary_search.ensures.position c.requires
    c.ok.result c.ok.ensures.value
