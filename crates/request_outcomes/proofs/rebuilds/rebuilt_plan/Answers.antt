use Rattle.std.proofs.Common.{◌≡◌, ◌∙◌, ◌+◌, ◌*◌, ◌≤◌, sym, subst, ap, arith, length, IfOk}
use Rattle.std.specs.FinMap.{entries}
use Rattle.request_outcomes.proofs.WholeLooks.{named_count}
use Rattle.request_outcomes.proofs.rebuilds.rebuilt_plan.Goals as goal
use Rattle.request_outcomes.proofs.rebuilds.rebuilt_plan.Goals.{In-Ok}
use Rattle.request_outcomes.specs.Rebuilds.{IsChangeBase, ArePartsOf, IsPlanBefore, AreRebuiltPartsOf, IsToldOf}
use Rattle.request_outcomes.specs.declared.rebuilt_parts.RebuiltParts.{RebuiltParts}
use Rattle.plan_model.specs.Contents.{Contents}
use Rattle.plan_model.specs.Plan.{Plan}
use Rattle.plan_model.specs.Ready.{IsChosen, named}
use Rattle.small_requests.specs.plan_changes.proofs.Answered.{if_ok}

-- what is named then, and what is kept
module _ (c : In-Ok) where
  abbrev Q : Contents
  Q = c.args.records.contents

  abbrev R : Contents
  R = c.rebuild_parts-records.result.0.contents

  rebuilt_parts : AreRebuiltPartsOf Q c.args.at R c.in-Ok.rebuilt_parts
  rebuilt_parts = record {
    chosen = subst (λ r. IfOk r (λ (s : RebuiltParts). IsChosen Q c.args.at s.named.items)) c.in-Ok.is c.rebuild_parts-records.ensures.chosen;
    after = subst (λ r. IfOk r (λ (s : RebuiltParts). R ≡ named s.named.items Q)) c.in-Ok.is c.rebuild_parts-records.ensures.contents;
    kept = subst (λ r. IfOk r (ArePartsOf R)) c.in-Ok.is c.rebuild_parts-records.ensures.kept;
  }

pub told-rebuilt-requires-clause-kept : goal.told-rebuilt-requires-clause-kept
told-rebuilt-requires-clause-kept c = (rebuilt_parts ((goal.at.told-rebuilt-requires-clause-kept c).In-Ok)).kept

pub told-rebuilt-requires-clause-before : goal.told-rebuilt-requires-clause-before
told-rebuilt-requires-clause-before c =
    let is = rebuilt_parts ((goal.at.told-rebuilt-requires-clause-before c).In-Ok) in
    subst (IsChangeBase c.args.before.now) (sym is.after) (c.requires.before c.in-Ok.rebuilt_parts.named.items is.chosen)

pub returns-in-Ok-clause-rebuilt_parts : goal.returns-in-Ok-clause-rebuilt_parts
returns-in-Ok-clause-rebuilt_parts c =
    let at = (goal.at.returns-in-Ok-clause-rebuilt_parts c).In-Ok in
    let is = subst (λ (R : Contents). AreRebuiltPartsOf (Q at) c.args.at R c.in-Ok.rebuilt_parts) (sym c.told-rebuilt.ensures.contents) (rebuilt_parts at) in
    if_ok c.told-rebuilt.result (λ x same. subst (AreRebuiltPartsOf (Q at) c.args.at c.told-rebuilt.new.records.contents) (sym same) is) c.told-rebuilt.ensures.rebuilt_parts

pub returns-in-Ok-clause-told : goal.returns-in-Ok-clause-told
returns-in-Ok-clause-told c = subst (λ (R : Contents). IfOk c.told-rebuilt.result (λ x. (P : Plan) → IsPlanBefore c.args.before.now P → IsToldOf P c.args.at R x)) (sym c.told-rebuilt.ensures.contents) c.told-rebuilt.ensures.told

pub returns-in-Ok-clause-most : goal.returns-in-Ok-clause-most
returns-in-Ok-clause-most c =
    let at = (goal.at.returns-in-Ok-clause-most c).In-Ok in
    let is = rebuilt_parts at in
    let first = subst (λ r. IfOk r (λ (s : RebuiltParts). c.rebuild_parts-records.result.0.looks ≤ c.args.records.looks + 2 * length (entries (Q at).operations))) c.in-Ok.is c.rebuild_parts-records.ensures.most in
    let count = ap (λ (R : Contents). length (entries R.operations)) is.after ∙ named_count (Q at) c.in-Ok.rebuilt_parts.named.items in
    if_ok c.told-rebuilt.result (λ x most. omega (arith, most, first, count)) c.told-rebuilt.ensures.most
