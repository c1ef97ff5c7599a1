use Rattle.std.specs.FinMap.{entries, get}
use Rattle.plan_drafts.proofs.Tables.{some_is}
use Rattle.plan_checks.specs.plan_status.proofs.RowKeys.{key_of_row}
use Rattle.small_requests.proofs.operation_places.place_of.Goals as goal

pub known_operation_place-requires : goal.known_operation_place-requires
known_operation_place-requires c = some_is (get c.args.uncounted.now.contents.now.operations c.args.key.now) c.requires.0 c.requires.1

pub returns : goal.returns
returns c = let at = c.known_operation_place.ensures.at in key_of_row (entries c.args.uncounted.now.contents.now.operations) c.known_operation_place.result c.args.key.now at.0 at.1
