use Rattle.std.proofs.Common.{sym, subst, arith, ◌+◌, ◌≤◌, ◌<◌, length}
use Rattle.std.specs.FinMap.{entries}
use Rattle.plan_outlooks.proofs.OperationsListed.{OperationsUpTo, no_operations_yet, operation_more, operations_listed}
use Rattle.plan_outlooks.proofs.operations.operations_by_key.Goals as goal

pub loop-place-init : goal.loop-place-init
loop-place-init c = λ F lent. subst (OperationsUpTo F 0) (sym c.new-rows.ensures.items) (no_operations_yet F)

pub operation_outlook-requires : goal.operation_outlook-requires
operation_outlook-requires c =
    let F = c.requires.0 in
    let lent = c.requires.1 in
    let test = c.loop-place-test.true in
    let size = lent.since_size in
    let within : c.loop-place.place < length (entries F.plan.contents.operations) = omega (arith, test, size) in
    (F, lent, within)

pub loop-place-preserved : goal.loop-place-preserved
loop-place-preserved c = λ F lent.
    let test = c.loop-place-test.true in
    let size = lent.since_size in
    let within : c.loop-place.place < length (entries F.plan.contents.operations) = omega (arith, test, size) in
    subst (OperationsUpTo F (c.loop-place.place + 1)) (sym c.in_ok-note.ensures)
    (operation_more F c.loop-place.place within c.loop-place.rows.items (c.loop-place.invariant F lent) c.operation_outlook.result (λ o at. c.operation_outlook.ensures F o lent at))

pub returns : goal.returns
returns c = λ F lent.
    let past = c.loop-place-test.false in
    let size = lent.since_size in
    let all : length (entries F.plan.contents.operations) ≤ c.loop-place.place = omega (arith, past, size) in
    operations_listed F c.loop-place.place all c.loop-place.rows.items (c.loop-place.invariant F lent)
