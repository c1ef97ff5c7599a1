use Rattle.std.proofs.Common.{◌≡◌, ◌∙◌, sym, ap, subst, ◌+◌, ◌<◌, ◌≤◌, All, List, Some, length, slice_get}
use Rattle.std.proofs.lemmas.List.{length-map}
use Rattle.std.specs.FinMap.{entries, keys}
use Rattle.plan_basics.specs.Refusals.{NoneRefuses}
use Rattle.plan_basics.specs.declared.keys.OpKey.{OpKey}
use Rattle.plan_checks.specs.plan_changes.specs.Markings.{WereMarked}
use Rattle.small_requests.specs.RequestEdits.{IsEditedAt}
use Rattle.plan_drafts.specs.PlanGraphs.{StandAt}
use Rattle.plan_model.specs.Contents.{Contents, IsInPlan}
use Rattle.plan_checks.specs.derived_figures.specs.DerivedRefs.{AreDerivedOf}
use Rattle.plan_records.specs.Acceptance.{MayBeDone}
use Rattle.small_requests.proofs.EditedKeys.{keys_in_plan}
use Rattle.small_requests.proofs.StepParts.{all_below}
use Rattle.small_requests.proofs.edits.noted_edit.Goals as goal
use Rattle.small_requests.proofs.edits.noted_edit.Goals.{After-deref-2}
use Rattle.small_requests.specs.Revisions.{IsRevisionFor}

pub of-outline-requires : goal.of-outline-requires
of-outline-requires c = subst (λ (Q : Contents). AreDerivedOf Q c.args.derived) (sym c.uncounted.ensures.contents) c.requires.derived

pub edited_places-requires-clause-clear : goal.edited_places-requires-clause-clear
edited_places-requires-clause-clear c =
    (c.requires.clear.0, subst (λ (Q : Contents). NoneRefuses (MayBeDone Q c.requires.clear.0 c.args.what.now)) (sym (c.of-outline.ensures ∙ c.uncounted.ensures.contents)) c.requires.clear.1)

pub revision_of-requires-clause-clear : goal.revision_of-requires-clause-clear
revision_of-requires-clause-clear c =
    (c.requires.clear.0, subst (λ (Q : Contents). NoneRefuses (MayBeDone Q c.requires.clear.0 c.args.what.now)) (sym (c.uncounted-2.ensures.contents ∙ c.of-outline.ensures ∙ c.uncounted.ensures.contents)) c.requires.clear.1)

pub keys_at-requires : goal.keys_at-requires
keys_at-requires c =
    let n = length (entries c.uncounted-3.result.contents.now.operations) in
    subst (All (λ i. i < n)) (sym c.deref.ensures.value)
    (all_below n c.in_ok-places.places.items (λ i has. subst (λ (Q : Contents). i < length (entries Q.operations)) (sym c.uncounted-3.ensures.contents) (c.in_ok-places.ensures.places.within i has)))

-- the keys stand at the places
stand : (c : After-deref-2) → StandAt (keys c.args.records.now.contents.operations) c.in_ok-places.places.items c.in_ok-keys.keys.items
stand c =
    subst (λ (Q : Contents). StandAt (keys Q.operations) c.in_ok-places.places.items c.in_ok-keys.keys.items) (c.uncounted-3.ensures.contents ∙ c.of-outline.ensures ∙ c.uncounted.ensures.contents)
    (subst (λ ps. StandAt (keys c.uncounted-3.result.contents.now.operations) ps c.in_ok-keys.keys.items) c.deref.ensures.value c.in_ok-keys.ensures)

pub markings_of-requires : goal.markings_of-requires
markings_of-requires c =
    let P = c.args.records.now.contents in
    subst (λ (os : List OpKey). All (IsInPlan P) os) (sym c.deref-2.ensures.value)
    (keys_in_plan P c.in_ok-places.places.items c.in_ok-keys.keys.items (stand c))

pub returns-clause-noted : goal.returns-clause-noted
returns-clause-noted c =
    let k : After-deref-2 = (goal.at.returns-clause-noted c).After-deref-2 in
    let P = c.args.records.now.contents in
    let w = c.args.what.now in
    let outline : c.of-outline.result ≡ P = c.of-outline.ensures ∙ c.uncounted.ensures.contents in
    record {
      at = subst (λ (Q : Contents). IsEditedAt Q w c.in_ok-places.places.items) outline c.in_ok-places.ensures.places;
      stand = stand k;
      were = subst (λ os. WereMarked P os c.in_ok-marks.marks.items) c.deref-2.ensures.value c.in_ok-marks.ensures.marks;
      writes = subst (λ (Q : Contents). IsRevisionFor Q w c.in_ok-revision.revision) (c.uncounted-2.ensures.contents ∙ outline) c.in_ok-revision.ensures;
      rerun = c.is_rerun.ensures;
    }

pub returns-clause-most : goal.returns-clause-most
returns-clause-most c =
    let k : After-deref-2 = (goal.at.returns-clause-most c).After-deref-2 in
    let as_many : length c.in_ok-keys.keys.items ≡ length c.in_ok-places.places.items =
    sym (length-map c.in_ok-keys.keys.items Some) ∙ sym (ap length (stand k)) ∙ length-map c.in_ok-places.places.items (slice_get (keys c.args.records.now.contents.operations)) in
    let most = subst (λ n. c.markings_of.new.self.looks ≤ c.args.records.now.looks + n) (ap length c.deref-2.ensures.value ∙ as_many) c.in_ok-marks.ensures.most in
    most
