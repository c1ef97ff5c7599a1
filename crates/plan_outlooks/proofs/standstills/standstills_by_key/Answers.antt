use Rattle.std.proofs.Common.{sym, subst, arith, ◌+◌, ◌≤◌, ◌<◌, length}
use Rattle.std.specs.FinMap.{entries}
use Rattle.plan_outlooks.proofs.StandstillsListed.{StandstillsUpTo, no_standstills_yet, standstill_more, standstills_listed}
use Rattle.plan_outlooks.proofs.standstills.standstills_by_key.Goals as goal

pub loop-place-init : goal.loop-place-init
loop-place-init c = λ F lent. subst (StandstillsUpTo F 0) (sym c.new-rows.ensures.items) (no_standstills_yet F)

pub standstill-requires : goal.standstill-requires
standstill-requires c =
    let F = c.requires.0 in
    let lent = c.requires.1 in
    let test = c.loop-place-test.true in
    let size = lent.since_size in
    let within : c.loop-place.place < length (entries F.plan.contents.operations) = omega (arith, test, size) in
    (F, lent, within)

pub loop-place-preserved : goal.loop-place-preserved
loop-place-preserved c = λ F lent.
    let test = c.loop-place-test.true in
    let size = lent.since_size in
    let within : c.loop-place.place < length (entries F.plan.contents.operations) = omega (arith, test, size) in
    let noted = c.in_ok-note_told.ensures.noted in
    let told = rw noted.1 at c.standstill.ensures.told in
    subst (StandstillsUpTo F (c.loop-place.place + 1)) (sym noted.2)
    (standstill_more F c.loop-place.place within c.loop-place.rows.items (c.loop-place.invariant F lent) noted.0 (λ o at. told F o lent at))

pub returns-clause-rows : goal.returns-clause-rows
returns-clause-rows c = λ F lent.
    let past = c.loop-place-test.false in
    let size = lent.since_size in
    let all : length (entries F.plan.contents.operations) ≤ c.loop-place.place = omega (arith, past, size) in
    standstills_listed F c.loop-place.place all c.loop-place.rows.items (c.loop-place.invariant F lent)
