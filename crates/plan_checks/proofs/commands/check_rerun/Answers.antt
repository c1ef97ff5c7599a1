use Rattle.std.proofs.Common.{◌≡◌, inr, sym, subst, ◌∙◌, true, false, true≢false, List, All, Contains, rules}
use Rattle.plan_basics.specs.Keys.{operation_cmp_total, operation_cmp-IsAntisymmetric}
use Rattle.plan_basics.specs.declared.keys.OpKey.{OpKey}
use Rattle.plan_model.proofs.Members.{if_member, member_if}
use Rattle.plan_model.specs.Contents.{IsInPlan}
use Rattle.plan_checks.proofs.ByCommand.{rerun, rerunnable_by, running_at_rerun}
use Rattle.plan_checks.proofs.ReachedKeys.{all_in_plan}
use Rattle.plan_checks.proofs.commands.check_rerun.Goals as goal
use Rattle.status_rules.specs.Classes.{is_rerunnable}

pub is_another_under_way-requires : goal.is_another_under_way-requires
is_another_under_way-requires c =
    let P = c.args.outline.now in
    let is = c.requires in
    subst (λ (os : List OpKey). All (IsInPlan P) os) (sym c.deref.ensures.value)
    (all_in_plan P c.args.key.now c.in_ok-reached.reached.items (c.args.reported.now.operation.now, is.operation, tt) c.in_ok-reached.ensures.reached)

pub returns-then-is_another_under_way-clause-refused : goal.returns-then-is_another_under_way-clause-refused
returns-then-is_another_under_way-clause-refused c =
    let x = c.args.reported.now in
    let is = c.requires in
    let reached = c.in_ok-reached.reached.items in
    let may : is_rerunnable x.status ≡ true = search rules in
    let yes : c.is_another_under_way.result ≡ true = search rules in
    let other = c.is_another_under_way.ensures.0 yes in
    let has : Contains reached other.0 = subst (λ (os : List OpKey). Contains os other.0) c.deref.ensures.value other.1 in
    let P = c.args.outline.now in
    inr (running_at_rerun P c.args.key.now (rerunnable_by P c.args.key.now x.status is.status may) other.0 other.2.0
    ((c.in_ok-reached.ensures.reached other.0).0 (if_member operation_cmp_total reached other.0 has)) other.2.1)

pub returns-clause-ok : goal.returns-clause-ok
returns-clause-ok c =
    let P = c.args.outline.now in
    let x = c.args.reported.now in
    let is = c.requires in
    let reached = c.in_ok-reached.reached.items in
    let may : is_rerunnable x.status ≡ true = search rules in
    let no : c.is_another_under_way.result ≡ false = search rules in
    rerun P c.args.key.now (rerunnable_by P c.args.key.now x.status is.status may) (λ q apart reaches under_way.
    let has = member_if operation_cmp-IsAntisymmetric reached q ((c.in_ok-reached.ensures.reached q).1 reaches) in
    let listed : Contains c.deref.result.now q = subst (λ (os : List OpKey). Contains os q) (sym c.deref.ensures.value) has in
    true≢false (sym (c.is_another_under_way.ensures.1 (q, listed, (apart, under_way))) ∙ no))
