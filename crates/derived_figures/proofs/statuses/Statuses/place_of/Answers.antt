use Rattle.std.proofs.Common.{◌≡◌, subst, Some, IfSome, slice_get}
use Rattle.std.specs.FinMap.{entries}
use Rattle.plan_model.specs.Contents.{Contents, Operation}
use Rattle.derived_figures.proofs.statuses.Statuses.place_of.Goals as goal

pub returns-clause-found : goal.returns-clause-found
returns-clause-found c =
    subst (λ (P : Contents). IfSome c.operation_place.result (λ i. (op : Operation) × (slice_get (entries P.operations) i ≡ Some (c.args.key.now, op)))) c.self.view_is c.operation_place.ensures.found
