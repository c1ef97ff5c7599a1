use Rattle.std.proofs.Common.{◌≡◌, sym, ap, subst, ◌∙◌, Some}
use Rattle.std.specs.FinMap.{get}
use Rattle.plan_status.proofs.LoadedRows.{row_found}
use Rattle.plan_status.specs.plan_model.specs.Contents.{Contents, attribute_at}
use Rattle.counted_records.proofs.RowRules.{rule_there}
use Rattle.counted_records.specs.Rules.{rule_on}
use Rattle.counted_records.proofs.rules.CountedRecordsRules.rule_of.Goals as goal

pub attribute_of-requires : goal.attribute_of-requires
attribute_of-requires c =
    let o = c.see.result.key.now in
    let op = c.see.result.operation.now in
    (o, subst (λ (Q : Contents). get Q.operations o ≡ Some op) (sym c.see.ensures.uncounted) (row_found c.args.self.now.contents c.args.node o op c.see.ensures.row))

pub returns-clause-rule : goal.returns-clause-rule
returns-clause-rule c =
    let o = c.see.result.key.now in
    let op = c.see.result.operation.now in
    c.rule_on.ensures ∙ ap (λ a. rule_on a op) (sym c.attribute_of.ensures) ∙ ap (λ Q. rule_on (attribute_at Q op.workstation) op) c.see.ensures.uncounted
    ∙ sym (rule_there c.args.self.now.contents c.args.node o op c.see.ensures.row)
