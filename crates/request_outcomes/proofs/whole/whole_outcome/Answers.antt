use Rattle.std.proofs.Common.{◌≡◌, ◌∙◌, sym, subst, ap, arith, length}
use Rattle.std.specs.FinMap.{entries}
use Rattle.request_outcomes.proofs.OutcomeTo.{needs_plan, whole_looks}
use Rattle.request_outcomes.proofs.Preparing.{is_clear, made_sound, sound_at}
use Rattle.request_outcomes.proofs.whole.whole_outcome.Goals as goal
use Rattle.request_outcomes.proofs.whole.whole_outcome.Goals.{After-rebuild_of, In_ok-new}
use Rattle.request_outcomes.specs.Rebuilds.{IsRebuildOf}
use Rattle.request_outcomes.specs.DatedRequests.{IsAcceptable, plan_asked}
use Rattle.request_outcomes.specs.Requested.{AreMadeBy}
use Rattle.plan_records.specs.Acceptance.{MayBeDone, minute_of}
use Rattle.plan_basics.specs.Refusals.{NoneRefuses}
use Rattle.plan_model.specs.Contents.{Contents}
use Rattle.plan_model.specs.Valid.{IsSound}
use Rattle.small_requests.specs.plan_changes.proofs.Answered.{if_ok}
use Rattle.small_requests.specs.derived_figures.specs.DerivedRefs.{AreDerivedOf}
use Rattle.small_requests.specs.counted_records.specs.States.{CountedState}

pub changed-requires-clause-sound : goal.changed-requires-clause-sound
changed-requires-clause-sound c = subst IsSound (sym c.in_ok-copy.ensures.copy) c.uncounted.ensures.sound

pub changed-requires-clause-needs : goal.changed-requires-clause-needs
changed-requires-clause-needs c = needs_plan c.args.records.now.contents c.args.asked.now.clock c.args.asked.now.request.now c.requires.acceptable.clear

pub changed-requires-clause-clear : goal.changed-requires-clause-clear
changed-requires-clause-clear c =
    let q = c.args.asked.now.request.now in
    subst (λ (P : Contents). (at : _) × NoneRefuses (MayBeDone P at q.what)) (sym c.in_ok-copy.ensures.copy) (minute_of q.at, is_clear (plan_asked c.args.records.now.contents c.args.asked.now) q c.requires.acceptable.clear)

-- what is made of the copy is made of the plan
made : (c : In_ok-new) → AreMadeBy c.args.records.now.contents c.args.asked.now.request.now.what c.in_ok-new.new
made c = subst (λ (P : Contents). AreMadeBy P c.args.asked.now.request.now.what c.in_ok-new.new) c.in_ok-copy.ensures.copy c.in_ok-new.ensures.made

pub into_counted-requires : goal.into_counted-requires
into_counted-requires c =
    let P = c.args.records.now.contents in
    let q = c.args.asked.now in
    made_sound (plan_asked P q) q.request.now c.requires.acceptable.clear c.in_ok-new.new (made ((goal.at.into_counted-requires c).In_ok-new)) (sound_at q.clock P c.requires.acceptable.clock c.uncounted.ensures.sound)

pub rebuild_of-requires-clause-derived : goal.rebuild_of-requires-clause-derived
rebuild_of-requires-clause-derived c = subst (λ (P : Contents). AreDerivedOf P c.args.derived) (sym (c.uncounted-2.ensures.contents ∙ c.in_ok-copy.ensures.contents)) c.requires.derived

pub rebuild_of-requires-clause-acceptable : goal.rebuild_of-requires-clause-acceptable
rebuild_of-requires-clause-acceptable c = subst (λ (P : Contents). IsAcceptable P c.args.asked.now) (sym (c.uncounted-2.ensures.contents ∙ c.in_ok-copy.ensures.contents)) c.requires.acceptable

pub rebuild_of-requires-clause-made : goal.rebuild_of-requires-clause-made
rebuild_of-requires-clause-made c =
    let w = c.args.asked.now.request.now.what in
    subst (λ (P : Contents). AreMadeBy P w c.into_counted.result.contents) (sym (c.uncounted-2.ensures.contents ∙ c.in_ok-copy.ensures.contents))
    (subst (λ (s : CountedState). AreMadeBy c.args.records.now.contents w s.contents) (sym c.into_counted.ensures) (made ((goal.at.rebuild_of-requires-clause-made c).In_ok-new)))

-- it is what the request leads to in the plan
is_rebuild : (c : After-rebuild_of) → IsRebuildOf (plan_asked c.args.records.now.contents c.args.asked.now) c.args.asked.now.request.now c.args.asked.now.at c.rebuild_of.result
is_rebuild c = subst (λ (P : Contents). IsRebuildOf (plan_asked P c.args.asked.now) c.args.asked.now.request.now c.args.asked.now.at c.rebuild_of.result) (c.uncounted-2.ensures.contents ∙ c.in_ok-copy.ensures.contents) c.rebuild_of.ensures.rebuild

pub returns-clause-rebuild : goal.returns-clause-rebuild
returns-clause-rebuild c = is_rebuild ((goal.at.returns-clause-rebuild c).After-rebuild_of)

pub returns-clause-looked : goal.returns-clause-looked
returns-clause-looked c =
    let P = c.args.records.now.contents in
    let q = c.args.asked.now in
    let Q = c.into_counted.result.contents in
    let a = c.rebuild_of.result in
    let copy = c.in_ok-copy.ensures in
    let same = ap (λ (P : Contents). length (entries P.operations)) (c.uncounted-2.ensures.contents ∙ copy.contents) in
    let none : c.into_counted.result.looks ≡ 0 = ap (λ (s : CountedState). s.looks) c.into_counted.ensures in
    whole_looks c.whole_plans_look_few.ensures P q.clock q.request.now q.at c.args.records.now.looks c.copied.new.self.looks c.uncounted.ensures.sound c.requires.whole Q a (is_rebuild ((goal.at.returns-clause-looked c).After-rebuild_of))
    (omega (arith, copy.most, c.requires.few)) (if_ok a.rebuilt (λ x most. omega (arith, most, same, none)) c.rebuild_of.ensures.most) c.rebuild_of.ensures.operations copy.least
