use Rattle.std.proofs.Common.{◌≡◌, refl, sym, ap, subst, ◌∙◌, is_some, true}
use Rattle.std.specs.FinMap.{contains_key, get, get-empty}
use Rattle.plan_basics.specs.Keys.{name_cmp}
use Rattle.plan_drafts.specs.plan_model.specs.Contents.{Contents, nothing}
use Rattle.plan_reasons.specs.plan_core.specs.plan_laws.proofs.Every.{nothing_known}
use Rattle.extension_faults.proofs.Looking.{false_is}
use Rattle.extension_faults.proofs.looks.has_resource.Goals as goal

pub returns-in-Some : goal.returns-in-Some
returns-in-Some c =
    let is = c.is_some.ensures ∙ ap is_some c.resource.ensures ∙ ap (λ (R : Contents). contains_key R.resources c.args.name.now) (c.contents.ensures.contents ∙ c.in-Some.ensures.contents) in
    (λ yes. sym is ∙ yes, λ has. is ∙ has)

pub returns-in-None : goal.returns-in-None
returns-in-None c =
    let r = c.args.name.now in
    false_is (λ h. nothing_known (get nothing.resources r) (get-empty name_cmp r) (subst (λ (C : Contents). contains_key C.resources r ≡ true) (c.in-None.ensures.none refl) h))
