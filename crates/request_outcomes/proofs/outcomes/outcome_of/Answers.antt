use Rattle.std.proofs.Common.{rules}
use Rattle.request_outcomes.proofs.outcomes.outcome_of.Goals as goal
use Rattle.small_requests.specs.plan_checks.specs.Commands.{Extends}

pub checked_outcome-requires-clause-stays : goal.checked_outcome-requires-clause-stays
checked_outcome-requires-clause-stays c =
    let other : ¬ Extends c.args.asked.now.request.now.what = search rules in
    other
