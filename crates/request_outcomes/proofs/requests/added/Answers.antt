use Rattle.std.proofs.Common.{◌≡◌, sym, subst, IfOk}
use Rattle.plan_basics.specs.declared.Refusal.TheVariants as refusal
use Rattle.request_outcomes.proofs.Made.{legal_by_parts}
use Rattle.request_outcomes.proofs.requests.added.Goals as goal
use Rattle.plan_records.specs.Acceptance.{MayBeAdded}
use Rattle.plan_records.specs.Changes.{with_added}
use Rattle.plan_drafts.specs.Contents.{added_of}
use Rattle.plan_model.specs.Contents.{AddedParts}
use Rattle.small_requests.specs.plan_checks.proofs.ComingApart.{comes_apart}

pub with_addition-requires-clause-apart : goal.with_addition-requires-clause-apart
with_addition-requires-clause-apart c =
    comes_apart c.args.copy c.requires.sound.valid (added_of c.parts.result.now) c.parts.ensures.in_order.extension
    (subst (λ (s : AddedParts). MayBeAdded c.args.copy s refusal.Duplicate) c.parts.ensures.view c.requires.new)

pub returns-clause-legal : goal.returns-clause-legal
returns-clause-legal c = legal_by_parts c.args.addition.now c.parts.result.now c.parts.ensures.view c.parts.ensures.one c.parts.ensures.in_order

pub returns-clause-plan : goal.returns-clause-plan
returns-clause-plan c = subst (λ (s : AddedParts). IfOk c.with_addition.result (λ new. new ≡ with_added c.args.copy s)) (sym c.parts.ensures.view) c.with_addition.ensures
