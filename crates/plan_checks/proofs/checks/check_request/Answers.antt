use Rattle.std.proofs.Common.{◌≡◌, ◌⊎◌, sym, subst, ◌∙◌, IfErr, OnOk}
use Rattle.plan_basics.specs.Refusals.{IsLeastRefusal, NoneRefuses}
use Rattle.plan_basics.specs.declared.Refusal.TheVariants as refusal
use Rattle.plan_model.specs.Contents.{Contents}
use Rattle.plan_records.specs.Acceptance.{MayBeDone}
use Rattle.derived_figures.specs.DerivedRefs.{AreDerivedOf}
use Rattle.plan_checks.proofs.checks.check_request.Goals as goal

pub check_operation-requires-clause-operation : goal.check_operation-requires-clause-operation
check_operation-requires-clause-operation c = sym c.operation.ensures ∙ c.in-Some.is

pub of-requires : goal.of-requires
of-requires c = subst (λ (Q : Contents). AreDerivedOf Q c.args.derived) (sym c.uncounted.ensures.contents) c.requires.derived

pub check_unseen-requires-clause-none : goal.check_unseen-requires-clause-none
check_unseen-requires-clause-none c = sym c.operation.ensures ∙ c.in-None.is

pub returns-in-None-clause-ok : goal.returns-in-None-clause-ok
returns-in-None-clause-ok c =
    subst (λ (Q : Contents). OnOk c.check_unseen.result (NoneRefuses (MayBeDone Q c.args.at c.args.what.now))) (c.of.ensures ∙ c.uncounted.ensures.contents) (c.check_unseen.ensures.ok c.args.at)

pub returns-in-None-clause-refused : goal.returns-in-None-clause-refused
returns-in-None-clause-refused c =
    subst (λ (Q : Contents). IfErr c.check_unseen.result (λ r. (r ≡ refusal.Memory) ⊎ IsLeastRefusal (MayBeDone Q c.args.at c.args.what.now) r)) (c.of.ensures ∙ c.uncounted.ensures.contents) (c.check_unseen.ensures.refused c.args.at)
