use Rattle.std.proofs.Common.{rules}
use Rattle.std.proofs.lemmas.List.Sorted.{answers_always}
use Rattle.plan_drafts.proofs.RowPlaces.{search_finds, search_misses}
use Rattle.plan_drafts.proofs.places.row_place.Goals as goal

pub returns-clause-found : goal.returns-clause-found
returns-clause-found g c =
    search_finds g.K.Ord.cmp g.met.K.Ord.total g.met.K.ExactKey.exact c.args.rows.now c.requires c.args.key.now c.binary_search_by_key.result c.binary_search_by_key.ensures.bound
    (c.binary_search_by_key.ensures.position (λ row. row.0) (answers_always _ _ _ (λ f a r q k. search rules))) c.ok.result c.ok.ensures.value

pub returns-clause-absent : goal.returns-clause-absent
returns-clause-absent g c =
    search_misses g.K.Ord.cmp g.met.K.Ord.total g.met.K.ExactKey.exact c.args.rows.now c.requires c.args.key.now c.binary_search_by_key.result c.binary_search_by_key.ensures.bound
    (c.binary_search_by_key.ensures.position (λ row. row.0) (answers_always _ _ _ (λ f a r q k. search rules))) c.ok.result c.ok.ensures.value
