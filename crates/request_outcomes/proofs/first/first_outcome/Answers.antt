use Rattle.std.proofs.Common.{rules, None}
use Rattle.plan_basics.specs.Minutes.{IsMoment}
use Rattle.request_outcomes.proofs.Refusing.{is_refused, may_be_accepted}
use Rattle.request_outcomes.proofs.first.first_outcome.Goals as goal
use Rattle.plan_records.specs.Answer.{refused}
use Rattle.plan_records.specs.Step.{Step}
use Rattle.plan_model.specs.Plan.{plan_held}

pub returns-in_err-check_first-clause-refused : goal.returns-in_err-check_first-clause-refused
returns-in_err-check_first-clause-refused c =
    let P = plan_held c.args.clock None in
    let q = c.args.request.now in
    let m = c.args.at in
    let r = c.in_err-check_first.field-0.0 in
    let in_range : IsMoment m = search rules in
    let step : Step P q (refused r) P = is_refused P q m c.requires.at c.requires.onward in_range r (c.in_err-check_first.ensures.refused c.args.clock m) in
    search rules

pub loaded_first-requires-clause-clear : goal.loaded_first-requires-clause-clear
loaded_first-requires-clause-clear c =
    let m = c.args.at in
    let in_range : IsMoment m = search rules in
    may_be_accepted (plan_held c.args.clock None) c.args.request.now m c.requires.at c.requires.onward in_range (c.in_ok-check_first.ensures.ok c.args.clock m)
