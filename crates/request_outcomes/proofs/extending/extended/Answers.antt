use Rattle.std.proofs.Common.{◌≡◌, ◌⊎◌, ◌∙◌, ◌+◌, ◌*◌, ◌≤◌, ap, sym, subst, arith, length, Result, Ok, Err, IfOk, OnOk}
use Rattle.std.specs.FinMap.{entries, len, len-entries}
use Rattle.plan_basics.specs.Refusals.{IsLeastRefusal, NoneRefuses}
use Rattle.plan_basics.specs.declared.Refusal.TheVariants as refusal
use Rattle.request_outcomes.proofs.extending.extended.Goals as goal
use Rattle.request_outcomes.proofs.extending.extended.Goals.{In-Ok}
use Rattle.request_outcomes.specs.Rebuilds.{AreRebuiltPartsOf}
use Rattle.plan_records.specs.Acceptance.{MayBeAdded}
use Rattle.plan_records.specs.Changes.{with_added}
use Rattle.plan_drafts.specs.Contents.{added_of}
use Rattle.plan_drafts.specs.PlanGraphs.{IsGraphFor}
use Rattle.plan_model.specs.Contents.{Contents}
use Rattle.small_requests.specs.plan_changes.proofs.Answered.{if_ok}
use Rattle.small_requests.specs.counted_records.specs.States.{CountedState}

-- what is so, is so where the answer is good
always : {T E A : Type 0} (r : Result T E) → A → OnOk r A
always (Ok x) a = a
always (Err e) a = tt

pub check_records-requires-clause-graph : goal.check_records-requires-clause-graph
check_records-requires-clause-graph c = subst (λ (s : CountedState). IsGraphFor s.contents c.args.left.graph) (sym c.into_counted-records.ensures) c.requires.graph

-- the records hold what is left
module _ (c : In-Ok) where
  left_is : c.check_records.new.records.contents ≡ c.args.left.copy
  left_is = c.check_records.ensures.contents ∙ ap (λ (s : CountedState). s.contents) c.into_counted-records.ensures

pub grown-requires-clause-clear : goal.grown-requires-clause-clear
grown-requires-clause-clear c = subst (λ (P : Contents). NoneRefuses (MayBeAdded P (added_of c.args.parts.now))) (sym c.in-Ok.ensures.contents) c.in-Ok.ensures.ok

pub returns-in-Ok-clause-clear : goal.returns-in-Ok-clause-clear
returns-in-Ok-clause-clear c =
    always c.grown.result.rebuilt (subst (λ (P : Contents). NoneRefuses (MayBeAdded P (added_of c.args.parts.now))) (ap (λ (s : CountedState). s.contents) c.into_counted-records.ensures) c.in-Ok.ensures.ok)

pub returns-in-Ok-clause-rebuilt_parts : goal.returns-in-Ok-clause-rebuilt_parts
returns-in-Ok-clause-rebuilt_parts c =
    subst (λ (P : Contents). IfOk c.grown.result.rebuilt (λ x. AreRebuiltPartsOf (with_added P (added_of c.args.parts.now)) c.args.at c.grown.result.records.contents x.rebuilt_parts))
    (left_is (goal.at.returns-in-Ok-clause-rebuilt_parts c).In-Ok) c.grown.ensures.rebuilt_parts

pub returns-in-Ok-clause-most : goal.returns-in-Ok-clause-most
returns-in-Ok-clause-most c =
    let P = c.args.left.copy in
    let first = subst (λ (s : CountedState). c.check_records.new.records.looks ≤ s.looks + len s.contents.operations) c.into_counted-records.ensures c.in-Ok.ensures.most in
    if_ok c.grown.result.rebuilt (λ x few. omega (arith, few, first, len-entries P.operations))
    (subst (λ (Q : Contents). IfOk c.grown.result.rebuilt (λ _. c.grown.result.records.looks ≤ c.check_records.new.records.looks + 4 * length (entries (with_added Q (added_of c.args.parts.now)).operations)))
    (left_is (goal.at.returns-in-Ok-clause-most c).In-Ok) c.grown.ensures.most)

pub returns-clause-refused : goal.returns-clause-refused
returns-clause-refused c =
    subst (λ (s : CountedState). (c.in-Err.refusal ≡ refusal.Memory) ⊎ IsLeastRefusal (MayBeAdded s.contents (added_of c.args.parts.now)) c.in-Err.refusal) c.into_counted-records.ensures c.in-Err.ensures.refused
