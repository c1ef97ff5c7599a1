use Rattle.std.specs.FinMap.{entries, keys}
use Rattle.plan_basics.specs.declared.keys.OpKey.{OpKey}
use Rattle.request_outcomes.proofs.Staying.{made_on}
use Rattle.request_outcomes.proofs.remaining.their_operations.Goals as goal
use Rattle.small_requests.specs.plan_status.proofs.RowKeys.{key_of_row}
use Rattle.small_requests.specs.counted_records.specs.Leaving.{is_one_of}

pub loop-place-preserved : goal.loop-place-preserved
loop-place-preserved c =
    let rows = entries c.args.uncounted.now.contents.now.operations in
    let key = c.operation_key-key.ensures.key in
    let test = λ (o : OpKey). is_one_of c.args.occurrences.now o.occurrence in
    rw c.in_ok-push.ensures.items
    (made_on test (keys c.args.uncounted.now.contents.now.operations) c.loop-place.theirs.items c.loop-place.place c.operation_key-key.result.now c.is_one_of.result (key_of_row rows c.loop-place.place c.operation_key-key.result.now key.0 key.1) c.is_one_of.ensures c.loop-place.invariant)
