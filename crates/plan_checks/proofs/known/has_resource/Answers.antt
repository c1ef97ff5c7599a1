use Rattle.std.proofs.Common.{sym, ap, ◌∙◌, is_some}
use Rattle.std.specs.FinMap.{contains_key}
use Rattle.plan_model.specs.Contents.{Contents}
use Rattle.plan_checks.proofs.known.has_resource.Goals as goal

pub returns : goal.returns
returns c =
    let is = c.is_some.ensures ∙ ap is_some c.resource.ensures ∙ ap (λ (R : Contents). contains_key R.resources c.args.name.now) c.uncounted.ensures.contents in
    (λ yes. sym is ∙ yes, λ has. is ∙ has)
