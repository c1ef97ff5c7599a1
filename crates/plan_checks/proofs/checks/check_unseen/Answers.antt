use Rattle.std.proofs.Common.{◌≡◌, ◌⊎◌, ap, subst, ◌∙◌, List, Some, IfErr, OnOk, rules}
use Rattle.plan_basics.specs.Intervals.{OpenInterval}
use Rattle.plan_basics.specs.Refusals.{IsLeastRefusal, NoneRefuses}
use Rattle.plan_basics.specs.declared.Refusal.TheVariants as refusal
use Rattle.plan_records.specs.Acceptance.{MayBeAdded, MayBeOpenBy}
use Rattle.plan_model.specs.Contents.{Contents}
use Rattle.plan_records.specs.declared.What.TheVariants as what
use Rattle.plan_drafts.specs.Contents.{added_of}
use Rattle.plan_checks.proofs.Reporting.{if_barred, if_fails, if_none_refuses}
use Rattle.plan_checks.proofs.checks.check_unseen.Goals as goal

pub returns-in-DeleteOccurrence-clause-refused : goal.returns-in-DeleteOccurrence-clause-refused
returns-in-DeleteOccurrence-clause-refused c at =
    if_fails c.args.outline.now at c.in-DeleteOccurrence.is c.check_deleted.result c.check_deleted.ensures.refused

pub returns-in_ok-addition-in-AddOccurrence-clause-ok : goal.returns-in_ok-addition-in-AddOccurrence-clause-ok
returns-in_ok-addition-in-AddOccurrence-clause-ok c at =
    let some : c.in-AddOccurrence.addition ≡ Some c.in_ok-addition-in-AddOccurrence.addition.now = search rules in
    if_none_refuses c.args.outline.now at (c.in-AddOccurrence.is ∙ ap what.AddOccurrence (some ∙ ap Some c.parts.ensures.view)) c.check_added.result
    (subst (λ (P : Contents). OnOk c.check_added.result (NoneRefuses (MayBeAdded P (added_of c.parts.result.now)))) c.known.ensures c.check_added.ensures.ok)

pub returns-in_ok-addition-in-AddOccurrence-clause-refused : goal.returns-in_ok-addition-in-AddOccurrence-clause-refused
returns-in_ok-addition-in-AddOccurrence-clause-refused c at =
    let some : c.in-AddOccurrence.addition ≡ Some c.in_ok-addition-in-AddOccurrence.addition.now = search rules in
    if_barred c.args.outline.now at (c.in-AddOccurrence.is ∙ ap what.AddOccurrence (some ∙ ap Some c.parts.ensures.view)) c.check_added.result
    (subst (λ (P : Contents). IfErr c.check_added.result (λ r. (r ≡ refusal.Memory) ⊎ IsLeastRefusal (MayBeAdded P (added_of c.parts.result.now)) r)) c.known.ensures c.check_added.ensures.refused)

pub returns-in-AddDependency-clause-ok : goal.returns-in-AddDependency-clause-ok
returns-in-AddDependency-clause-ok c at =
    if_none_refuses c.args.outline.now at c.in-AddDependency.is c.check_paired.result c.check_paired.ensures.ok

pub returns-in-AddDependency-clause-refused : goal.returns-in-AddDependency-clause-refused
returns-in-AddDependency-clause-refused c at =
    if_barred c.args.outline.now at c.in-AddDependency.is c.check_paired.result c.check_paired.ensures.refused

pub returns-in-SetAvailable-clause-refused : goal.returns-in-SetAvailable-clause-refused
returns-in-SetAvailable-clause-refused c at =
    if_fails c.args.outline.now at c.in-SetAvailable.is c.check_available.result c.check_available.ensures.refused

pub returns-in-ReplaceIntervals-clause-refused : goal.returns-in-ReplaceIntervals-clause-refused
returns-in-ReplaceIntervals-clause-refused c at =
    let contents = c.args.outline.now in
    let name = c.in-ReplaceIntervals.name in
    if_barred contents at c.in-ReplaceIntervals.is c.check_open_by.result
    (subst (λ (items : List OpenInterval). IfErr c.check_open_by.result (λ r. (r ≡ refusal.Memory) ⊎ (IsLeastRefusal (MayBeOpenBy contents name items) r))) c.deref.ensures.value
    c.check_open_by.ensures.refused)
