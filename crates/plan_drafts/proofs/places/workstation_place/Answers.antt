use Rattle.std.proofs.Common.{rules}
use Rattle.std.proofs.lemmas.List.Sorted.{answers_always}
use Rattle.plan_basics.specs.Keys.{name_cmp, name_cmp_total, name_cmp-IsAntisymmetric}
use Rattle.plan_drafts.proofs.RowPlaces.{search_finds, search_misses}
use Rattle.plan_drafts.proofs.places.workstation_place.Goals as goal

pub returns-clause-found : goal.returns-clause-found
returns-clause-found c =
    search_finds name_cmp name_cmp_total name_cmp-IsAntisymmetric c.args.rows.now c.requires c.args.name.now c.binary_search_by_key.result c.binary_search_by_key.ensures.bound
    (c.binary_search_by_key.ensures.position (λ row. row.0) (answers_always _ _ _ (λ f a r g k. search rules))) c.ok.result c.ok.ensures.value

pub returns-clause-absent : goal.returns-clause-absent
returns-clause-absent c =
    search_misses name_cmp name_cmp_total name_cmp-IsAntisymmetric c.args.rows.now c.requires c.args.name.now c.binary_search_by_key.result c.binary_search_by_key.ensures.bound
    (c.binary_search_by_key.ensures.position (λ row. row.0) (answers_always _ _ _ (λ f a r g k. search rules))) c.ok.result c.ok.ensures.value
