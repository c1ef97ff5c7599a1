use Rattle.std.proofs.Common.{sym, subst, All, true≢false, refl, arith}
use Rattle.std.specs.Map.{keys_of}
use Rattle.std.proofs.lemmas.Result.{IfOk-weaker}
use Rattle.plan_drafts.specs.PlanItems.{IsOneOf}
use Rattle.plan_denotation.proofs.InOrder.{named, rows_told}
use Rattle.plan_denotation.proofs.in_order.operations_in_order.Goals as goal

pub returns-then-not-are_named : goal.returns-then-not-are_named
returns-then-not-are_named c = λ are.
    true≢false (sym (c.if-not-are_named.ensures.1 (subst (All (IsOneOf (keys_of c.args.workstations.now))) (sym c.deref.ensures.value) (named (keys_of c.args.workstations.now) c.args.occurrences.now c.args.needs.now c.args.said.items are.fit))))

pub returns : goal.returns
returns c =
    let named = subst (All (IsOneOf (keys_of c.args.workstations.now))) c.deref.ensures.value (c.if-not-are_named.ensures.0 refl) in
    IfOk-weaker c.their_rows.result _ _
    (rows_told (λ v. v.items) (keys_of c.args.workstations.now) c.args.occurrences.now c.args.needs.now c.args.said.items (omega (arith, c.args.said.ok.0)) named)
    c.their_rows.ensures
