use Rattle.std.proofs.Common.{subst}
use Rattle.plan_reports.specs.desk_tables.specs.plan_model.specs.Plan.{Plan}
use Rattle.desk_serving.specs.Judged.{IsJudgedText}
use Rattle.desk_serving.proofs.judging.judged_made.Goals as goal

pub returns-clause-text : goal.returns-clause-text
returns-clause-text g c = subst (λ (P : Plan). IsJudgedText P c.args.body.now c.in_ok-judged_json.field-0.items) c.plan.ensures.plan c.in_ok-judged_json.ensures
