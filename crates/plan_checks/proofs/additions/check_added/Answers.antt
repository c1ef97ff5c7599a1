use Rattle.plan_drafts.specs.Contents.{added_of}
use Rattle.plan_checks.proofs.AdditionLines.{barred_by_ends, barred_by_key, barred_by_resources, barred_by_statuses, barred_by_workstations, told_by_growth, told_off, told_on}
use Rattle.plan_checks.proofs.additions.check_added.Goals as goal

pub returns-then-not-ends-clause-refused : goal.returns-then-not-ends-clause-refused
returns-then-not-ends-clause-refused c =
    barred_by_ends c.args.plan.now (added_of c.args.parts.now) (told_off c.ends_of_pairs-ends.result.are_known c.if-not-ends.true c.ends_of_pairs-ends.ensures.known)

pub returns-then-not-are_workstations_known-clause-refused : goal.returns-then-not-are_workstations_known-clause-refused
returns-then-not-are_workstations_known-clause-refused c =
    let known = told_on c.ends_of_pairs-ends.result.are_known c.if-not-ends.false c.ends_of_pairs-ends.ensures.known in
    barred_by_workstations c.args.plan.now (added_of c.args.parts.now) known c.if-not-are_workstations_known.ensures

pub returns-then-not-are_resources_known-clause-refused : goal.returns-then-not-are_resources_known-clause-refused
returns-then-not-are_resources_known-clause-refused c =
    let known = told_on c.ends_of_pairs-ends.result.are_known c.if-not-ends.false c.ends_of_pairs-ends.ensures.known in
    barred_by_resources c.args.plan.now (added_of c.args.parts.now) known c.if-not-are_workstations_known.ensures c.if-not-are_resources_known.ensures

pub returns-then-not-ends-2-clause-refused : goal.returns-then-not-ends-2-clause-refused
returns-then-not-ends-2-clause-refused c =
    let known = told_on c.ends_of_pairs-ends.result.are_known c.if-not-ends.false c.ends_of_pairs-ends.ensures.known in
    let closed = told_off c.ends_of_pairs-ends.result.are_open c.if-not-ends-2.true c.ends_of_pairs-ends.ensures.may in
    barred_by_statuses c.args.plan.now (added_of c.args.parts.now) known c.if-not-are_workstations_known.ensures c.if-not-are_resources_known.ensures closed

pub returns-then-not-are_new_occurrences-clause-refused : goal.returns-then-not-are_new_occurrences-clause-refused
returns-then-not-are_new_occurrences-clause-refused c =
    let known = told_on c.ends_of_pairs-ends.result.are_known c.if-not-ends.false c.ends_of_pairs-ends.ensures.known in
    let open_to = told_on c.ends_of_pairs-ends.result.are_open c.if-not-ends-2.false c.ends_of_pairs-ends.ensures.may in
    barred_by_key c.args.plan.now (added_of c.args.parts.now) known c.if-not-are_workstations_known.ensures c.if-not-are_resources_known.ensures open_to c.if-not-are_new_occurrences.ensures

pub returns-else-not-are_new_occurrences : goal.returns-else-not-are_new_occurrences
returns-else-not-are_new_occurrences c =
    let known = told_on c.ends_of_pairs-ends.result.are_known c.if-not-ends.false c.ends_of_pairs-ends.ensures.known in
    let open_to = told_on c.ends_of_pairs-ends.result.are_open c.if-not-ends-2.false c.ends_of_pairs-ends.ensures.may in
    let told = told_by_growth c.args.plan.now (added_of c.args.parts.now) known c.if-not-are_workstations_known.ensures c.if-not-are_resources_known.ensures open_to c.if-not-are_new_occurrences.ensures c.check_grown.result c.check_grown.ensures.ok c.check_grown.ensures.refused in
    record { ok = told.0; refused = told.1 }
