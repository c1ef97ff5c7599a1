use Rattle.std.proofs.Common.{◌≡◌, ◌⊎◌, sym, subst, IfErr, IfOk}
use Rattle.plan_core.proofs.counted.prepared_rebuild.Goals as goal
use Rattle.plan_core.proofs.counted.prepared_rebuild.Goals.{After-into_contents-contents}
use Rattle.request_outcomes.specs.Rebuilds.{IsRebuildOf, ArePartsOf, IsRebuiltBy}
use Rattle.request_outcomes.specs.declared.rebuilt_parts.RebuiltParts.{RebuiltParts}
use Rattle.plan_basics.specs.declared.Refusal.TheVariants as refusal
use Rattle.plan_model.specs.Contents.{Contents}
use Rattle.plan_model.specs.Plan.{Plan}
use Rattle.plan_records.specs.Answer.{refused}
use Rattle.plan_records.specs.Step.{Step}
use Rattle.plan_records.specs.declared.Request.{Request}
use Rattle.request_outcomes.specs.plan_checks.proofs.ByPair.{handed_on}

-- what is kept of some contents is kept of those that they are
kept_at : (P Q : Contents) (s : RebuiltParts) → P ≡ Q → ArePartsOf P s → ArePartsOf Q s
kept_at P Q s same kept = subst (λ (R : Contents). ArePartsOf R s) same kept

pub of-plan-requires-clause-graph : goal.of-plan-requires-clause-graph
of-plan-requires-clause-graph c =
    let by = subst (λ r. IfOk r (IsRebuiltBy c.requires.0 c.requires.1 c.args.at c.args.rebuild.records.contents)) c.in_ok-rebuilt_parts.was c.requires.2.rebuilt in
    (kept_at _ _ _ (sym c.into_contents-contents.ensures.contents) by.kept).graph

pub of-plan-requires-clause-latest : goal.of-plan-requires-clause-latest
of-plan-requires-clause-latest c =
    let by = subst (λ r. IfOk r (IsRebuiltBy c.requires.0 c.requires.1 c.args.at c.args.rebuild.records.contents)) c.in_ok-rebuilt_parts.was c.requires.2.rebuilt in
    (kept_at _ _ _ (sym c.into_contents-contents.ensures.contents) by.kept).latest

pub of-plan-requires-clause-figures : goal.of-plan-requires-clause-figures
of-plan-requires-clause-figures c =
    let by = subst (λ r. IfOk r (IsRebuiltBy c.requires.0 c.requires.1 c.args.at c.args.rebuild.records.contents)) c.in_ok-rebuilt_parts.was c.requires.2.rebuilt in
    (kept_at _ _ _ (sym c.into_contents-contents.ensures.contents) by.kept).figures

pub returns-in_err-rebuilt_parts-clause-refused : goal.returns-in_err-rebuilt_parts-clause-refused
returns-in_err-rebuilt_parts-clause-refused c =
    handed_on (λ r. (P : Plan) (request : Request) → IsRebuildOf P request c.args.at c.args.rebuild → (r ≡ refusal.Memory) ⊎ Step P request (refused r) P) c.from_residual.result c.in_err-rebuilt_parts.field-0.0 c.from_residual.ensures.1
    (λ P request of. subst (λ r. IfErr r (λ e. (e ≡ refusal.Memory) ⊎ Step P request (refused e) P)) c.in_err-rebuilt_parts.was of.refused)
