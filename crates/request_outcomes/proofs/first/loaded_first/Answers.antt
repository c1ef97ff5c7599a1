use Rattle.std.proofs.Common.{◌≡◌, refl, ap, arith, subst, sym, None}
use Rattle.request_outcomes.proofs.OutcomeTo.{rebuild_by, first_is_whole, first_looks, settled_count}
use Rattle.request_outcomes.proofs.Preparing.{made_sound}
use Rattle.request_outcomes.proofs.first.loaded_first.Goals as goal
use Rattle.request_outcomes.proofs.first.loaded_first.Goals.{After-rebuilt_plan}
use Rattle.request_outcomes.specs.Rebuilds.{IsRebuildOf}
use Rattle.request_outcomes.specs.Requested.{AreMadeBy}
use Rattle.plan_drafts.specs.PlanGraphs.{IsGraphFor}
use Rattle.plan_model.specs.Contents.{nothing}
use Rattle.plan_model.specs.Plan.{plan_held}
use Rattle.plan_model.specs.Ready.{named}
use Rattle.small_requests.specs.plan_changes.proofs.Answered.{if_ok}
use Rattle.small_requests.specs.plan_rows.proofs.Sources.{nothing_kept}
use Rattle.small_requests.specs.counted_records.specs.States.{CountedState}

pub into_counted-requires : goal.into_counted-requires
into_counted-requires c =
    made_sound (plan_held c.args.clock None) c.args.request.now c.requires.clear c.in_ok-copy.copy c.in_ok-copy.ensures.made c.requires.sound

pub rebuilt_plan-requires-clause-graph : goal.rebuilt_plan-requires-clause-graph
rebuilt_plan-requires-clause-graph c = subst (λ (s : CountedState). IsGraphFor s.contents c.in_ok-copy.graph) (sym c.into_counted.ensures) c.in_ok-copy.ensures.graph

pub rebuilt_plan-requires-clause-before : goal.rebuilt_plan-requires-clause-before
rebuilt_plan-requires-clause-before c os chosen = (tt, nothing_kept (named os c.into_counted.result.contents))

-- it is what the request leads to
is_rebuild : (c : After-rebuilt_plan) → IsRebuildOf (plan_held c.args.clock None) c.args.request.now c.args.at c.rebuilt_plan.result
is_rebuild c =
    let Q = c.into_counted.result.contents in
    let made = subst (λ (s : CountedState). AreMadeBy nothing c.args.request.now.what s.contents) (sym c.into_counted.ensures) c.in_ok-copy.ensures.made in
    rebuild_by (plan_held c.args.clock None) c.args.request.now c.requires.clear Q made c.args.at c.requires.at c.rebuilt_plan.result c.rebuilt_plan.ensures.rebuilt_parts
    (if_ok c.rebuilt_plan.result.rebuilt (λ x told. told (plan_held c.args.clock None) refl) c.rebuilt_plan.ensures.told) c.rebuilt_plan.ensures.refused

pub returns-clause-rebuild : goal.returns-clause-rebuild
returns-clause-rebuild c = is_rebuild ((goal.at.returns-clause-rebuild c).After-rebuilt_plan)

pub returns-clause-looked : goal.returns-clause-looked
returns-clause-looked c =
    let q = c.args.request.now in
    let Q = c.into_counted.result.contents in
    let a = c.rebuilt_plan.result in
    first_looks c.whole_plans_look_few.ensures c.args.clock q c.args.at (first_is_whole c.args.clock q c.requires.clear) Q a (is_rebuild ((goal.at.returns-clause-looked c).After-rebuilt_plan))
    (if_ok a.rebuilt (λ x h. let none : c.into_counted.result.looks ≡ 0 = ap (λ (s : CountedState). s.looks) c.into_counted.ensures in omega (arith, h, none)) c.rebuilt_plan.ensures.most)
    (settled_count Q c.args.at a a.rebuilt c.rebuilt_plan.ensures.rebuilt_parts)
