use Rattle.std.proofs.Common.{rules}
use Rattle.std.proofs.lemmas.List.Sorted.{answers_always}
use Rattle.tracker_receipts.proofs.kept.place_of.Goals as goal

pub returns-clause-position : goal.returns-clause-position
returns-clause-position c = c.binary_search_by_key.ensures.position (λ row. row.0) (answers_always _ _ _ (λ f a r q k. search rules))
