use Rattle.std.proofs.Common.{◌∙◌, ap, refl}
use Rattle.std.specs.FinMap.{entries}
use Rattle.plan_drafts.specs.plan_model.specs.Contents.{Contents}
use Rattle.extension_faults.proofs.StayingKeys.{no_occurrence_keys, occurrence_keys}
use Rattle.extension_faults.proofs.limits.occurrence_keys.Goals as goal

pub returns-in_default : goal.returns-in_default
returns-in_default c = no_occurrence_keys c.args.plan.now.plan.contents c.new.result.items c.new.ensures.items (c.in_default.ensures.none refl)

pub returns : goal.returns
returns c =
    let same = c.occurrences.ensures.rows ∙ ap (λ (C : Contents). entries C.occurrences) (c.contents.ensures.contents ∙ c.in-Some.ensures.contents) in
    occurrence_keys c.args.plan.now.plan.contents c.in_ok-keys.keys.items c.occurrences.result.now c.in_ok-keys.ensures same c.occurrences.ensures.in_order
