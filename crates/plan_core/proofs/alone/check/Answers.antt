use Rattle.std.proofs.Common.{rules, ◌≡◌, ◌≤ℤ◌, pos}
use Rattle.plan_basics.specs.Minutes.{IsMoment}
use Rattle.request_outcomes.proofs.Refusing.{load_is_free, may_be_accepted}
use Rattle.plan_model.specs.Plan.{no_plan}
use Rattle.plan_core.specs.Trials.{load_at}
use Rattle.plan_core.proofs.alone.check.Goals as goal

pub returns-clause-ok : goal.returns-clause-ok
returns-clause-ok c =
    let q = load_at c.args.at c.args.draft.now in
    let m = c.in_ok-moment.moment in
    let onward : pos no_plan.clock ≤ℤ q.at = search rules in
    let at : q.at ≡ pos m = search rules in
    let in_range : IsMoment m = search rules in
    may_be_accepted no_plan q m at onward in_range (load_is_free no_plan m c.args.draft.now c.in_ok-check_load.ensures.ok)
