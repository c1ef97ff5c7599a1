use Rattle.std.proofs.Common.{rules, refl}
use Rattle.plan_model.specs.Contents.{IsInPlan}
use Rattle.plan_shows.specs.plan_reasons.specs.Whys.{IsWhy}
use Rattle.plan_reports.proofs.Whys.{absent_of, not_in_plan}
use Rattle.plan_reports.proofs.made.why_made.Goals as goal

pub returns-then-is_none-clause-refused : goal.returns-then-is_none-clause-refused
returns-then-is_none-clause-refused g c =
    let none = c.if-is_none.true in
    let absent : ¬ IsInPlan c.args.desk.now.plan.contents c.args.key.now =
    absent_of c.view_op.result (IsInPlan c.args.desk.now.plan.contents c.args.key.now) (search rules) (rw c.in_ok-plan.ensures.plan at c.view_op.ensures.some) in
    rw (not_in_plan c.args.desk.now.is_usable c.args.desk.now.plan c.args.key.now c.in_ok-plan.ensures.none_owed absent) refl

pub returns-clause-text : goal.returns-clause-text
returns-clause-text g c =
    let is : IsWhy c.args.desk.now.plan.contents c.args.key.now c.args.at c.in-Some.found = rw (c.in-Some.is, c.in_ok-plan.ensures.plan) at c.in_ok-found.ensures.why in
    (c.in-Some.found, is, c.in_ok-why_text.ensures)
