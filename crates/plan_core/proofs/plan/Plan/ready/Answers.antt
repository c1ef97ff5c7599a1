use Rattle.std.proofs.Common.{◌≡◌, Some, All, true, true≢false, sym, ap, subst, ◌∙◌, refl, slice_index_or}
use Rattle.std.proofs.lemmas.Option.{get_or_from_slice_get, slice_get-get_or}
use Rattle.std.specs.FinMap.{contains_key, get, get-empty}
use Rattle.std.specs.Option.{is_some}
use Rattle.plan_basics.specs.Keys.{name_cmp}
use Rattle.plan_opening.specs.start_choice.specs.Choices.{AreReadyEntries}
use Rattle.plan_records.specs.plan_drafts.proofs.Tables.{some_is}
use Rattle.plan_model.specs.Contents.{Contents, IsInPlan}
use Rattle.ready_list.specs.Entries.{on_workstation}
use Rattle.ready_list.specs.declared.entry.ReadyEntry.{ReadyEntry}
use Rattle.plan_core.proofs.FromPlace.{none_known}
use Rattle.plan_core.proofs.ReadyViews.{are_ready_views, of_listed}
use Rattle.plan_core.proofs.plan.Plan.ready.Goals as goal
use Rattle.plan_model.specs.Plan.{plan_held}
use Rattle.plan_core.specs.State.{PlanState}
use Rattle.plan_core.specs.Views.{AreReadyViews, ready_views}

pub returns-in_err-loaded-clause-some : goal.returns-in_err-loaded-clause-some
returns-in_err-loaded-clause-some c =
    let name = c.args.workstation.now in
    let none = sym (ap (λ x. (plan_held c.self.inside.clock x).contents) c.in_err-loaded.ensures.value ∙ ap (λ (s : PlanState). s.plan.contents) c.self.view_is) in
    none_known c.from_residual.result c.from_residual.ensures (λ P. contains_key P.workstations name ≡ true) c.args.self.now.plan.contents none (λ known. true≢false (sym known ∙ ap is_some (get-empty name_cmp name)))

pub new-requires : goal.new-requires
new-requires c =
    let s = c.of.result in
    let listed = c.ready.result.now.entries in
    let w = c.args.workstation.now in
    let ready = subst (λ (P : Contents). AreReadyEntries P listed) (sym c.of.ensures.contents) c.ready.ensures in
    let each : All (λ (e : ReadyEntry). IsInPlan s.contents.now e.key.op) (on_workstation w listed) = λ k d lt.
    let es = on_workstation w listed in
    let e = slice_index_or es k d in
    let its = of_listed s c.of.ensures.source listed ready w e (k, lt, get_or_from_slice_get es k e e (slice_get-get_or es k d lt)) in
    (its.0, its.1, tt) in
    (c.of.ensures.source, subst (All (λ (e : ReadyEntry). IsInPlan s.contents.now e.key.op)) (sym c.of_ws-entries.ensures) each)

pub returns-clause-some : goal.returns-clause-some
returns-clause-some c =
    let w = c.args.workstation.now in
    let same = ap (λ x. (plan_held c.self.inside.clock x).contents) c.in_ok-loaded.ensures.value ∙ ap (λ (s : PlanState). s.plan.contents) c.self.view_is in
    let at = subst (λ (P : Contents). get P.workstations w ≡ Some c.in_ok-workstation.field-0.now.1) (c.contents.ensures.contents ∙ same) c.in_ok-workstation.ensures.found.1 in
    (λ some. some_is (get c.args.self.now.plan.contents.workstations w) c.in_ok-workstation.field-0.now.1 at, λ known. refl)

pub returns-clause-views : goal.returns-clause-views
returns-clause-views c =
    let s = c.of.result in
    let listed = c.ready.result.now.entries in
    let w = c.args.workstation.now in
    let same = ap (λ x. (plan_held c.self.inside.clock x).contents) c.in_ok-loaded.ensures.value ∙ ap (λ (s : PlanState). s.plan.contents) c.self.view_is in
    let ready = subst (λ (P : Contents). AreReadyEntries P listed) (sym c.of.ensures.contents) c.ready.ensures in
    subst (λ (P : Contents). AreReadyViews P w c.new.result) (c.of.ensures.contents ∙ same)
    (subst (AreReadyViews s.contents.now w) (sym (c.new.ensures ∙ ap (ready_views s) c.of_ws-entries.ensures)) (are_ready_views s c.of.ensures.source listed ready w))
