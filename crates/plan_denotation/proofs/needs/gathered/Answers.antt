use Rattle.std.proofs.Common.{sym, subst, ap, ◌∙◌, ◌+◌, ◌≤◌, arith, map}
use Rattle.std.specs.FinMap.{insert, len}
use Rattle.std.proofs.lemmas.List.{take_all}
use Rattle.plan_basics.specs.declared.limits.TheConstants.{MOST_NEEDS}
use Rattle.plan_items.specs.special_resources.specs.Holdings.{usage_of}
use Rattle.plan_items.specs.special_resources.specs.Needs.{ComeBefore, usages_of}
use Rattle.plan_denotation.proofs.OwnNeeds.{said_need, comes_next, one_more, so_many}
use Rattle.plan_denotation.proofs.needs.gathered.Goals as goal

pub push-requires : goal.push-requires
push-requires c =
    let said = c.said-item.result in
    subst (λ u. ComeBefore u said.1.name) (sym c.loop-said.invariant.so_far) (comes_next c.args.said.now c.requires c.loop-said.said-index said (omega arith) c.said-item.is)

pub loop-said-preserved : goal.loop-said-preserved
loop-said-preserved c =
    let said = c.said-item.result in
    let i = c.loop-said.said-index in
    let so_far = c.loop-said.invariant.so_far in
    let more = one_more c.args.said.now c.requires i said (omega arith) c.said-item.is in
    let pushed = c.push.ensures.pushed c.if-not-push.false in
    let next = pushed ∙ ap (λ u. insert u said.1.name (usage_of said.1)) so_far ∙ sym more in
    let count = so_many c.args.said.now c.requires (i + 1) (omega arith) in
    let most = subst (λ u. len u ≤ MOST_NEEDS) next c.push.ensures.few in
    record { few = omega (arith, count, most); so_far = next }

pub returns-then-not-push : goal.returns-then-not-push
returns-then-not-push c =
    let i = c.loop-said.said-index in
    let count = ap len c.loop-said.invariant.so_far ∙ so_many c.args.said.now c.requires i (omega arith) in
    let full = (c.push.ensures.full c.if-not-push.true).0 in
    omega (arith, count, full)

pub returns : goal.returns
returns c =
    let i = c.loop-said.said-index in
    (omega arith, c.loop-said.invariant.so_far ∙ ap (λ xs. usages_of (map said_need xs)) (take_all i c.args.said.now (omega arith)))
