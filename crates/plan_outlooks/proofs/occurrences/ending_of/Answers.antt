use Rattle.std.proofs.Common.{sym, ◌∙◌, subst, true≢false}
use Rattle.plan_model.specs.Contents.{Contents}
use Rattle.plan_model.specs.Valid.{IsValid}
use Rattle.status_rules.specs.declared.Status.TheVariants.{Complete}
use Rattle.plan_outlooks.specs.Spans.{HaveStatus}
use Rattle.plan_outlooks.proofs.Ending.{all_complete, is_end}
use Rattle.plan_outlooks.proofs.occurrences.ending_of.Goals as goal

pub returns-then-are_complete : goal.returns-then-are_complete
returns-then-are_complete c = λ F k lent are there.
    let first = c.args.first in
    let end = c.args.end in
    let all = subst (λ (Q : Contents). HaveStatus Q first end Complete) lent.last (c.are_complete.ensures.0 c.if-are_complete.true) in
    let valid = subst (λ (P : Contents). IsValid P) lent.plan c.read_for_proof.ensures.valid in
    is_end F c.args.refs.now lent k first end are valid there c.latest_of.result all c.latest_of.ensures

pub returns-else-are_complete : goal.returns-else-are_complete
returns-else-are_complete c = λ F k lent are there each.
    let first = c.args.first in
    let end = c.args.end in
    let all = subst (λ (Q : Contents). HaveStatus Q first end Complete) (sym lent.last) (all_complete F c.args.refs.now lent k first end are each) in
    true≢false (sym (c.are_complete.ensures.1 all) ∙ c.if-are_complete.false)
