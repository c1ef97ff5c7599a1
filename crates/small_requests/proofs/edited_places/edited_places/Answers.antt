use Rattle.std.proofs.Common.{◌≡◌, sym, subst, ◌∙◌, ℕ, Some, IfOk}
use Rattle.std.proofs.lemmas.Result.{IfOk-weaker}
use Rattle.plan_basics.specs.Refusals.{NoneRefuses}
use Rattle.plan_basics.specs.declared.Refusal.TheVariants as refusal
use Rattle.plan_basics.specs.declared.keys.OpKey.{OpKey}
use Rattle.plan_model.specs.Contents.{Contents, IsInPlan}
use Rattle.plan_records.specs.Acceptance.{MayBeDone}
use Rattle.plan_records.specs.declared.What.{What}
use Rattle.plan_records.specs.declared.What.TheVariants as what
use Rattle.small_requests.proofs.EditedPlaces.{edited_at_target, edited_nowhere, not_rerun}
use Rattle.small_requests.proofs.Targets.{target_in_plan}
use Rattle.small_requests.proofs.edited_places.edited_places.Goals as goal
use Rattle.small_requests.specs.RequestEdits.{ArePlacesWhere, IsEditedAt}

rerun_in_plan : (P : Contents) (m : ℕ) (w : What) (o : OpKey) → w ≡ what.Rerun o → NoneRefuses (MayBeDone P m w) → IsInPlan P o
rerun_in_plan P m w o is clear = subst (λ v. NoneRefuses (MayBeDone P m v)) is clear refusal.UnknownOperation

pub reached_places-requires : goal.reached_places-requires
reached_places-requires c = rerun_in_plan c.args.outline.now c.requires.clear.0 c.args.what.now c.in-Rerun.key c.in-Rerun.is c.requires.clear.1

pub returns-in-Rerun-clause-places : goal.returns-in-Rerun-clause-places
returns-in-Rerun-clause-places c = subst (λ w. IfOk c.reached_places.result (λ places. IsEditedAt c.args.outline.now w places.items)) (sym c.in-Rerun.is) c.reached_places.ensures.places

pub one_place-requires : goal.one_place-requires
one_place-requires c = target_in_plan c.args.outline.now c.requires.clear.0 c.args.what.now c.in-Some.key (sym c.target_of.ensures ∙ c.in-Some.is) c.requires.clear.1

pub returns-in-Some : goal.returns-in-Some
returns-in-Some c =
    let never = not_rerun c.args.what.now c.in_default.not-Rerun in
    record {
      places = IfOk-weaker c.one_place.result (λ places. ArePlacesWhere c.args.outline.now (λ o. Some c.in-Some.key ≡ Some o) places.items) (λ places. IsEditedAt c.args.outline.now c.args.what.now places.items)
          (λ places are. edited_at_target c.args.outline.now c.args.what.now never c.in-Some.key (sym c.target_of.ensures ∙ c.in-Some.is) places.items are) c.one_place.ensures.places;
      refused = c.one_place.ensures.refused;
    }

pub returns-in-None : goal.returns-in-None
returns-in-None c =
    let never = not_rerun c.args.what.now c.in_default.not-Rerun in
    record {
      places = subst (λ places. IsEditedAt c.args.outline.now c.args.what.now places) (sym c.new.ensures.items) (edited_nowhere c.args.outline.now c.args.what.now never (sym c.target_of.ensures ∙ c.in-None.is));
      refused = tt;
    }
