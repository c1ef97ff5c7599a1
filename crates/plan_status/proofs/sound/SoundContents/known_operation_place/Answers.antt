use Rattle.std.proofs.Common.{◌≡◌, subst, Some, slice_get}
use Rattle.std.specs.FinMap.{entries}
use Rattle.plan_model.specs.Contents.{Contents, Operation}
use Rattle.plan_status.proofs.sound.SoundContents.known_operation_place.Goals as goal

pub returns-clause-at : goal.returns-clause-at
returns-clause-at c =
    subst (λ (P : Contents). (value : Operation) × (slice_get (entries P.operations) c.known_operation_place.result ≡ Some (c.args.key.now, value))) c.rows.ensures.contents c.known_operation_place.ensures.at
