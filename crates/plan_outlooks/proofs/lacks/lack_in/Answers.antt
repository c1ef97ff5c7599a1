use Rattle.std.proofs.Common.{refl, sym, ◌∙◌, ap}
use Rattle.std.proofs.lemmas.Option.{none-some}
use Rattle.std.specs.FinMap.{get, get-empty}
use Rattle.plan_basics.specs.Keys.{operation_cmp}
use Rattle.plan_model.specs.Contents.{Contents}
use Rattle.plan_outlooks.proofs.NoReason.{none_of_none}
use Rattle.plan_outlooks.proofs.lacks.lack_in.Goals as goal

pub first_reason-requires : goal.first_reason-requires
first_reason-requires c = c.in-Some-place_of.ensures.found

pub returns-in_default-clause-reason : goal.returns-in_default-clause-reason
returns-in_default-clause-reason c = none_of_none c.args.plan.now.plan.contents c.args.key.now c.args.at
    (λ known. none-some known.0 (sym (get-empty operation_cmp c.args.key.now) ∙ ap (λ (Q : Contents). get Q.operations c.args.key.now) (sym (c.in_default.ensures.none refl)) ∙ known.1))

pub returns-in-None-clause-reason : goal.returns-in-None-clause-reason
returns-in-None-clause-reason c = none_of_none c.args.plan.now.plan.contents c.args.key.now c.args.at
    (λ known. none-some known.0 (sym (c.in-None.ensures.absent refl) ∙ ap (λ (Q : Contents). get Q.operations c.args.key.now) c.in-Some.ensures.contents ∙ known.1))
