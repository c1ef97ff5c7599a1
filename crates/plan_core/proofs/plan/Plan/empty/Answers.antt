use Rattle.std.proofs.Common.{rules, ◌≡◌, sym, subst, false}
use Rattle.plan_core.proofs.plan.Plan.empty.Goals as goal
use Rattle.plan_opening.specs.plan_laws.proofs.Every.{no_plan_is_sound}
use Rattle.plan_model.specs.Contents.{nothing}
use Rattle.plan_model.specs.Plan.{IsSoundPlan}

pub invariant_of-result : goal.invariant_of-result
invariant_of-result c =
    let first : c.unwrap.result ≡ 0 = search rules in
    subst (λ n. IsSoundPlan (record { loaded = false; clock = n; contents = nothing })) (sym first) no_plan_is_sound
