use Rattle.std.proofs.Common.{◌≡◌, ◌≤◌, refl, sym, ap, subst, ◌∙◌, Some, None, arith, rules}
use Rattle.std.specs.FinMap.{get}
use Rattle.std.proofs.lemmas.Option.{none-some, same_Some}
use Rattle.plan_model.specs.Contents.{Contents}
use Rattle.plan_model.specs.declared.Stock.{Stock}
use Rattle.plan_checks.proofs.known.is_within_stock.Goals as goal

pub returns-in-Some : goal.returns-in-Some
returns-in-Some c =
    let P = c.args.plan.now in
    let name = c.args.need.now.name in
    let is : get P.resources name ≡ Some c.in-Some.stock = ap (λ (Q : Contents). get Q.resources name) (sym c.uncounted.ensures.contents) ∙ sym c.resource.ensures ∙ c.in-Some.is in (
      λ yes. record { enough = λ stock there. subst (λ (s : Stock). c.args.need.now.amount ≤ s.quantity) (same_Some c.in-Some.stock stock (sym is ∙ there)) (search (arith, yes, rules)) },
      λ has. let few = has.enough c.in-Some.stock is in search (arith, few, rules),
    )

pub returns-in-None : goal.returns-in-None
returns-in-None c =
    let P = c.args.plan.now in
    let name = c.args.need.now.name in
    let is : get P.resources name ≡ None = ap (λ (Q : Contents). get Q.resources name) (sym c.uncounted.ensures.contents) ∙ sym c.resource.ensures ∙ c.in-None.is in (
      λ yes. record { enough = λ stock there. absurd (none-some stock (sym is ∙ there)) },
      λ has. refl,
    )
