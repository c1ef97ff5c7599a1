use Rattle.std.proofs.Common.{◌≡◌, subst, Some, IfSome, slice_get}
use Rattle.std.specs.FinMap.{entries}
use Rattle.plan_model.specs.Contents.{Contents, Operation}
use Rattle.plan_status.proofs.sound.SoundContents.operation_place_near.Goals as goal

pub returns-clause-found : goal.returns-clause-found
returns-clause-found c =
    subst (λ (P : Contents). IfSome c.operation_place_near.result (λ i. (value : Operation) × (slice_get (entries P.operations) i ≡ Some (c.args.key.now, value)))) c.rows.ensures.contents c.operation_place_near.ensures.found
