use Rattle.std.proofs.Common.{◌≡◌, refl, subst, IfOk, MatchOption, Some}
use Rattle.std.specs.FinMap.{get, get-empty}
use Rattle.plan_basics.specs.Keys.{operation_cmp}
use Rattle.plan_model.specs.Contents.{Contents, IsInPlan, nothing}
use Rattle.plan_core.specs.plan_laws.proofs.Every.{nothing_at}
use Rattle.plan_reasons.specs.Whys.{IsWhy}
use Rattle.plan_reasons.proofs.plan.why.Goals as goal

pub returns-in-Some-clause-why : goal.returns-in-Some-clause-why
returns-in-Some-clause-why c =
    let o = c.args.key.now in
    subst (λ (C : Contents). IfOk c.explain.result (λ found. MatchOption found (¬ IsInPlan C o) (IsWhy C o c.args.at))) c.in-Some.ensures.contents c.explain.ensures.why

pub returns-in-None-clause-why : goal.returns-in-None-clause-why
returns-in-None-clause-why c (op, is, _) =
    let o = c.args.key.now in
    nothing_at (get nothing.operations o) op (get-empty operation_cmp o) (subst (λ (C : Contents). get C.operations o ≡ Some op) (c.in-None.ensures.none refl) is)
