use Rattle.std.proofs.Common.{inl, refl, sym, subst}
use Rattle.request_outcomes.proofs.KeptRecords.{request_keeps}
use Rattle.request_outcomes.proofs.OutcomeTo.{rebuild_by, needs_plan, settled_count}
use Rattle.request_outcomes.proofs.Preparing.{is_clear}
use Rattle.request_outcomes.proofs.whole.rebuild_of.Goals as goal
use Rattle.request_outcomes.specs.DatedRequests.{plan_asked}
use Rattle.request_outcomes.specs.Requested.{AreMadeBy}
use Rattle.plan_records.specs.Acceptance.{minute_of}
use Rattle.plan_drafts.specs.PlanGraphs.{IsGraphFor}
use Rattle.plan_model.specs.Contents.{Contents}
use Rattle.small_requests.specs.plan_changes.proofs.Answered.{if_ok}

pub graph_after-requires-clause-clear : goal.graph_after-requires-clause-clear
graph_after-requires-clause-clear c =
    let P = plan_asked c.args.uncounted.now.contents.now c.args.asked.now in
    let q = c.args.asked.now.request.now in
    (minute_of q.at, is_clear P q c.requires.acceptable.clear)

pub graph_after-requires-clause-made : goal.graph_after-requires-clause-made
graph_after-requires-clause-made c = subst (AreMadeBy c.args.uncounted.now.contents.now c.args.asked.now.request.now.what) (sym c.uncounted.ensures.contents) c.requires.made

pub rebuilt_plan-requires-clause-graph : goal.rebuilt_plan-requires-clause-graph
rebuilt_plan-requires-clause-graph c = subst (λ (P : Contents). IsGraphFor P c.in-Ok.graph) c.uncounted.ensures.contents c.in-Ok.ensures.graph

pub rebuilt_plan-requires-clause-before : goal.rebuilt_plan-requires-clause-before
rebuilt_plan-requires-clause-before c os chosen =
    let P = c.args.uncounted.now.contents.now in
    let q = c.args.asked.now.request.now in (
      c.columns_of.ensures P c.are_sound.ensures c.requires.derived,
      request_keeps P c.args.new.contents q.what (minute_of q.at) c.args.asked.now.at c.are_sound.ensures (needs_plan P c.args.asked.now.clock q c.requires.acceptable.clear) c.requires.whole c.requires.stays
          (is_clear (plan_asked P c.args.asked.now) q c.requires.acceptable.clear) c.requires.made os chosen,
    )

pub returns-in-Ok-clause-rebuild : goal.returns-in-Ok-clause-rebuild
returns-in-Ok-clause-rebuild c =
    let q = c.args.asked.now in
    rebuild_by (plan_asked c.args.uncounted.now.contents.now q) q.request.now c.requires.acceptable.clear c.args.new.contents c.requires.made q.at c.requires.acceptable.at c.rebuilt_plan.result c.rebuilt_plan.ensures.rebuilt_parts
    (if_ok c.rebuilt_plan.result.rebuilt (λ x told. told (plan_asked c.args.uncounted.now.contents.now q) refl) c.rebuilt_plan.ensures.told) c.rebuilt_plan.ensures.refused

pub returns-in-Err-clause-rebuild : goal.returns-in-Err-clause-rebuild
returns-in-Err-clause-rebuild c = record { rebuilt = tt; refused = inl c.in-Err.ensures.refused }

pub returns-in-Ok-clause-operations : goal.returns-in-Ok-clause-operations
returns-in-Ok-clause-operations c = settled_count c.args.new.contents c.args.asked.now.at c.rebuilt_plan.result c.rebuilt_plan.result.rebuilt c.rebuilt_plan.ensures.rebuilt_parts
