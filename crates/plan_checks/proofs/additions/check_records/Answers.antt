use Rattle.std.proofs.Common.{◌≡◌, ◌⊎◌, ◌∙◌, sym, subst, IfErr, OnOk}
use Rattle.plan_basics.specs.Refusals.{IsLeastRefusal, NoneRefuses}
use Rattle.plan_basics.specs.declared.Refusal.TheVariants as refusal
use Rattle.plan_model.specs.Contents.{Contents}
use Rattle.plan_records.specs.Acceptance.{MayBeAdded}
use Rattle.plan_drafts.specs.Contents.{added_of}
use Rattle.plan_drafts.specs.Places.{AreStatuses}
use Rattle.plan_checks.proofs.additions.check_records.Goals as goal

pub of-requires : goal.of-requires
of-requires c =
    subst (λ (P : Contents). AreStatuses P c.deref.result.now) (sym (c.uncounted.ensures.contents ∙ c.in_ok-statuses.ensures.contents))
    (subst (AreStatuses c.args.records.now.contents) (sym c.deref.ensures.value) c.in_ok-statuses.ensures.statuses)

pub returns-clause-ok : goal.returns-clause-ok
returns-clause-ok c =
    subst (λ (P : Contents). OnOk c.check_added.result (NoneRefuses (MayBeAdded P (added_of c.args.parts.now)))) (c.of.ensures ∙ c.uncounted.ensures.contents ∙ c.in_ok-statuses.ensures.contents) c.check_added.ensures.ok

pub returns-clause-refused : goal.returns-clause-refused
returns-clause-refused c =
    subst (λ (P : Contents). IfErr c.check_added.result (λ r. (r ≡ refusal.Memory) ⊎ IsLeastRefusal (MayBeAdded P (added_of c.args.parts.now)) r)) (c.of.ensures ∙ c.uncounted.ensures.contents ∙ c.in_ok-statuses.ensures.contents) c.check_added.ensures.refused
