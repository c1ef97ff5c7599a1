use Rattle.std.proofs.Common.{◌≡◌, refl, sym, ap, ◌∙◌, None, Some}
use Rattle.std.specs.FinMap.{get, get-empty}
use Rattle.plan_basics.specs.Keys.{name_cmp}
use Rattle.plan_drafts.specs.plan_model.specs.Contents.{Contents}
use Rattle.extension_faults.proofs.Looking.{false_is, never_short, short_is}
use Rattle.extension_faults.proofs.looks.is_beyond_quantity.Goals as goal

pub returns-in_default : goal.returns-in_default
returns-in_default c =
    let r = c.args.need.now.name in
    let none : get c.args.plan.now.plan.contents.resources r ≡ None = ap (λ (C : Contents). get C.resources r) (c.in_default.ensures.none refl) ∙ get-empty name_cmp r in
    false_is (never_short (get c.args.plan.now.plan.contents.resources r) c.args.need.now.amount none)

pub returns-in-Some-resource : goal.returns-in-Some-resource
returns-in-Some-resource c =
    let r = c.args.need.now.name in
    let is : get c.args.plan.now.plan.contents.resources r ≡ Some c.in-Some-resource.stock = ap (λ (C : Contents). get C.resources r) (sym (c.contents.ensures.contents ∙ c.in-Some.ensures.contents)) ∙ sym c.in-Some-resource.ensures in
    short_is (get c.args.plan.now.plan.contents.resources r) c.args.need.now.amount c.in-Some-resource.stock is c.is_beyond.result c.is_beyond.ensures

pub returns-in-None : goal.returns-in-None
returns-in-None c =
    let r = c.args.need.now.name in
    let none : get c.args.plan.now.plan.contents.resources r ≡ None = ap (λ (C : Contents). get C.resources r) (sym (c.contents.ensures.contents ∙ c.in-Some.ensures.contents)) ∙ sym c.in-None.ensures in
    false_is (never_short (get c.args.plan.now.plan.contents.resources r) c.args.need.now.amount none)
