use Rattle.std.proofs.Common.{◌∙◌, sym, subst, ap, true≢false, refl, arith, rules, All, map}
use Rattle.std.specs.Map.{keys_of}
use Rattle.plan_basics.specs.Keys.{name_cmp}
use Rattle.plan_drafts.specs.PlanItems.{CanOpen, opened_in, AreOfThese}
use Rattle.plan_drafts.specs.KeyOrder.{AreInKeyOrder}
use Rattle.plan_denotation.proofs.Openings.{opened_ascend, opening_permuted, others, stations_are}
use Rattle.plan_denotation.proofs.intervals.workstations_in_order.Goals as goal
use Rattle.plan_denotation.proofs.intervals.workstations_in_order.Goals.{In-Some}

-- the workstations by name
named : (c : In-Some) → AreInKeyOrder name_cmp (λ row. row.0) c.args.said.items c.in-Some.said.items
named c = rw c.in-Some.is at c.in_ok-said.ensures (λ row. row.0) (λ x r h. search rules)

pub returns-in_default : goal.returns-in_default
returns-in_default c = λ are. (rw c.in_default.is at c.in_ok-said.ensures (λ row. row.0) (λ x r h. search rules)) are.distinct

pub returns-in_default-2 : goal.returns-in_default-2
returns-in_default-2 c = λ are.
    let at = goal.at.returns-in_default-2 c in
    let none = rw c.in_default-2.is at c.in_ok-workstations.ensures in
    none (subst (All (CanOpen c.args.intervals.now)) (sym c.deref.ensures.value) (opening_permuted c.args.intervals.now c.args.said.items c.in-Some.said.items (named at.In-Some).same are.opening))

pub are_of_these-requires : goal.are_of_these-requires
are_of_these-requires c =
    let at = goal.at.are_of_these-requires c in
    let made = rw c.in-Some-2.is at c.in_ok-workstations.ensures in
    opened_ascend c.args.intervals.now c.in-Some.said.items c.deref-2.result.now (c.deref-2.ensures.value ∙ made.1 ∙ ap (map (opened_in c.args.intervals.now)) c.deref.ensures.value) (named at.In-Some).in_order

pub returns-then-not-are_of_these : goal.returns-then-not-are_of_these
returns-then-not-are_of_these c =
    let at = goal.at.returns-then-not-are_of_these c in
    let made = rw c.in-Some-2.is at c.in_ok-workstations.ensures in
    others c.args.intervals.now c.args.said.items c.in-Some.said.items c.deref-2.result.now (named at.In-Some).same (c.deref-2.ensures.value ∙ made.1 ∙ ap (map (opened_in c.args.intervals.now)) c.deref.ensures.value)
    (λ these. true≢false (sym (c.if-not-are_of_these.ensures.1 these)))

pub returns : goal.returns
returns c =
    let at = goal.at.returns c in
    let made = rw c.in-Some-2.is at c.in_ok-workstations.ensures in
    stations_are c.args.intervals.now c.args.said.items c.in-Some.said.items c.in-Some-2.workstations.items (omega (arith, c.args.said.ok.0)) (named at.In-Some)
    (subst (All (CanOpen c.args.intervals.now)) c.deref.ensures.value made.0)
    (made.1 ∙ ap (map (opened_in c.args.intervals.now)) c.deref.ensures.value)
    (subst (λ ws. AreOfThese (keys_of ws) c.args.intervals.now) c.deref-2.ensures.value (c.if-not-are_of_these.ensures.0 refl))
