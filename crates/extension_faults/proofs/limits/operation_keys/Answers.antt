use Rattle.std.proofs.Common.{◌∙◌, ap, refl}
use Rattle.std.specs.FinMap.{entries}
use Rattle.plan_drafts.specs.plan_model.specs.Contents.{Contents}
use Rattle.extension_faults.proofs.StayingKeys.{no_operation_keys, operation_keys}
use Rattle.extension_faults.proofs.limits.operation_keys.Goals as goal

pub returns-in_default : goal.returns-in_default
returns-in_default c = no_operation_keys c.args.plan.now.plan.contents c.new.result.items c.new.ensures.items (c.in_default.ensures.none refl)

pub returns : goal.returns
returns c =
    let same = c.operations.ensures.rows ∙ ap (λ (C : Contents). entries C.operations) (c.contents.ensures.contents ∙ c.in-Some.ensures.contents) in
    operation_keys c.args.plan.now.plan.contents c.in_ok-keys.keys.items c.operations.result.now c.in_ok-keys.ensures same c.operations.ensures.in_order
