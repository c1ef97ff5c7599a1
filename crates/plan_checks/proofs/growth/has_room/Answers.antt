use Rattle.std.proofs.Common.{◌-◌, ◌≤◌, arith, length, rules}
use Rattle.plan_basics.specs.declared.limits.TheConstants.{MOST_OCCURRENCES, MOST_OPERATIONS, MOST_PAIRS}
use Rattle.plan_checks.proofs.Limits.{counted}
use Rattle.plan_checks.proofs.growth.has_room.Goals as goal

pub overflow_sub-room : goal.overflow_sub-room
overflow_sub-room c =
    let rows = c.occurrences-occurrences.result.now in
    let count = counted c.args.uncounted.now.contents.now.occurrences rows c.occurrences-occurrences.ensures.rows in
    let most = c.occurrences-occurrences.ensures.sound.valid.limits.occurrences in
    omega (arith, most, count)

pub returns-then-keys-le-MOST_OPERATIONS : goal.returns-then-keys-le-MOST_OPERATIONS
returns-then-keys-le-MOST_OPERATIONS c =
    let rows = c.occurrences-occurrences.result.now in
    let count = counted c.args.uncounted.now.contents.now.occurrences rows c.occurrences-occurrences.ensures.rows in
    let most = c.occurrences-occurrences.ensures.sound.valid.limits.occurrences in
    let few : c.args.more ≤ MOST_OCCURRENCES - length rows = search rules in
    let operations : length c.args.keys.now ≤ MOST_OPERATIONS = search rules in (
      λ yes.
          let pairs : length c.args.pairs.now ≤ MOST_PAIRS = search rules in
          record { occurrences = omega (arith, few, most, count); operations = operations; pairs = pairs },
      λ room.
          let pairs : length c.args.pairs.now ≤ MOST_PAIRS = room.pairs in
          search rules,
    )

pub returns-else-keys-le-MOST_OPERATIONS : goal.returns-else-keys-le-MOST_OPERATIONS
returns-else-keys-le-MOST_OPERATIONS c =
    let rows = c.occurrences-occurrences.result.now in
    let count = counted c.args.uncounted.now.contents.now.occurrences rows c.occurrences-occurrences.ensures.rows in (
      λ yes. search rules,
      λ room.
          let few : c.args.more ≤ MOST_OCCURRENCES - length rows = omega (arith, room.occurrences, count) in
          let operations : length c.args.keys.now ≤ MOST_OPERATIONS = room.operations in
          search rules,
    )
