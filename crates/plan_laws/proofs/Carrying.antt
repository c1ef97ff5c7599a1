-- The workstations and special resources of a plan stay at each step: nothing else goes but intervals and what goes with an occurrence.
use Rattle.std.proofs.Common.{◌≡◌, ◌⊎◌, inl, inr, refl, sym, ◌∙◌, ap, subst, ℤ, Bool, true, false, cond, Option, Some, option_map, is_some}
use Rattle.std.specs.FinMap.{get, get-empty, contains_key}
use Rattle.std.specs.Ordering.{eq_by_cmp}
use Rattle.plan_basics.specs.Keys.{Name, name_cmp, name_cmp-IsAntisymmetric}
use Rattle.plan_basics.specs.declared.Refusal.TheVariants as refusal
use Rattle.plan_records.specs.plan_model.specs.workstations.specs.Workstations.{Workstation, with_intervals}
use Rattle.plan_records.specs.plan_model.specs.Contents.{Contents, nothing, with_availability}
use Rattle.plan_records.specs.plan_model.specs.Plan.{Plan, IsSoundPlan}
use Rattle.plan_records.specs.plan_model.specs.Revise.{get-revise, revise}
use Rattle.plan_records.specs.plan_model.specs.declared.Stock.{Stock}
use Rattle.plan_records.specs.plan_drafts.proofs.Needed.{mapped}
use Rattle.plan_records.specs.plan_drafts.proofs.Tables.{is_found}
use Rattle.plan_records.specs.plan_drafts.specs.declared.RowKey.{RowKey}
use Rattle.plan_records.specs.Acceptance.{MayBeAccepted}
use Rattle.plan_records.specs.Answer.{accepted, refused}
use Rattle.plan_records.specs.Changes.{Changes}
use Rattle.plan_records.specs.Rows.{HasKey, IsRow, key_of}
use Rattle.plan_records.specs.declared.PlanRow.{PlanRow}
use Rattle.plan_records.specs.declared.PlanRow.TheVariants as row
use Rattle.plan_records.specs.declared.What.{What}
use Rattle.plan_records.specs.declared.What.TheVariants as what
use Rattle.plan_basics.specs.Refusals.{NoneRefuses}
use Rattle.plan_laws.proofs.Every.{nothing_at, nothing_known}
use Rattle.plan_laws.specs.Tables.{MayGo, OnlyTheseGo}

-- the workstations and special resources of P are Q's too, and there is as much of these
record Carries (P Q : Contents) : Type 0 where
  pub workstations : (w : Name) → contains_key P.workstations w ≡ true → contains_key Q.workstations w ≡ true
  pub resources : (r : Name) (stock : Stock) → get P.resources r ≡ Some stock → (x : Stock) × (get Q.resources r ≡ Some x) × (x.quantity ≡ stock.quantity)

-- ---- each change

-- where all that changes are occurrences, operations and pairs
all_carried : (P Q : Contents) → Q.workstations ≡ P.workstations → Q.resources ≡ P.resources → Carries P Q
all_carried P Q v r = record {
  workstations = λ w h. ap (λ m. contains_key m w) v ∙ h;
  resources = λ n stock e. (stock, ap (λ m. get m n) r ∙ e, refl);
}

nothing_carried : (Q : Contents) → Carries nothing Q
nothing_carried Q = record {
  workstations = λ w h. nothing_known (get nothing.workstations w) (get-empty name_cmp w) h;
  resources = λ r stock e. nothing_at (get nothing.resources r) stock (get-empty name_cmp r) e;
}

as_much : (b : Bool) (x stock : Stock) → x.quantity ≡ stock.quantity → (cond b x stock).quantity ≡ stock.quantity
as_much true x stock e = e
as_much false x stock e = refl

availability_carried : (P : Contents) (r : Name) (available : Bool) → Carries P (record P { resources = revise (with_availability r available) P.resources })
availability_carried P r available = record {
  workstations = λ w h. h;
  resources = λ n stock e. (
    with_availability r available n stock,
    get-revise name_cmp-IsAntisymmetric (with_availability r available) P.resources n ∙ ap (option_map (with_availability r available n)) e,
    as_much (eq_by_cmp name_cmp n r) (record stock { available = available }) stock refl,
  );
}

workstations_carried : (P : Contents) (f : Name → Workstation → Workstation) → Carries P (record P { workstations = revise f P.workstations })
workstations_carried P f = record {
  workstations = λ v h. let one = is_found (get P.workstations v) h in ap is_some (get-revise name_cmp-IsAntisymmetric f P.workstations v ∙ ap (option_map (f v)) one.1);
  resources = λ r stock e. (stock, e, refl);
}

-- what an accepted request changes carries over what there was
abbrev ChangeCarries : What → Type 0
ChangeCarries w = (P : Plan) (Q : Contents) (at : ℤ) → IsSoundPlan P → NoneRefuses (MayBeAccepted P (record { at = at; what = w })) → Changes P.contents w Q → Carries P.contents Q

changed_carried : (P Q R : Contents) → Q ≡ R → Carries P R → Carries P Q
changed_carried P Q R same h = subst (Carries P) (sym same) h

beside : (P Q R : Contents) → Q ≡ R → R.workstations ≡ P.workstations → R.resources ≡ P.resources → Carries P Q
beside P Q R same v r = changed_carried P Q R same (all_carried P R v r)

-- a load finds nothing there
load_carried : (draft : Option Contents) → ChangeCarries (what.Load draft)
load_carried draft P Q at sound may c = subst (λ X. Carries X.contents Q) (sym (sound.before_load (may refusal.Loaded tt))) (nothing_carried Q)

every_change_carries : (w : What) → ChangeCarries w
every_change_carries (what.Load draft) P Q at sound may c = load_carried draft P Q at sound may c
every_change_carries (what.Rerun o) P Q at sound may c = beside P.contents Q _ c.2 refl refl
every_change_carries (what.AddOccurrence a) P Q at sound may c = beside P.contents Q _ c.2 refl refl
every_change_carries (what.Extend a) P Q at sound may c =
    beside P.contents Q _ c.4 (ap (λ X. X.workstations) c.3.2) (ap (λ X. X.resources) c.3.2)
every_change_carries (what.SetAvailable r available) P Q at sound may c = changed_carried _ Q _ c (availability_carried P.contents r available)
every_change_carries (what.ReplaceIntervals w items) P Q at sound may c =
    changed_carried _ Q _ c (workstations_carried P.contents (λ v ws. cond (eq_by_cmp name_cmp v w) (with_intervals items.items ws) ws))
every_change_carries what.Tick P Q at sound may c = beside P.contents Q _ c refl refl
every_change_carries (what.Started o) P Q at sound may c = beside P.contents Q _ c refl refl
every_change_carries (what.Ended o) P Q at sound may c = beside P.contents Q _ c refl refl
every_change_carries (what.Error o code) P Q at sound may c = beside P.contents Q _ c refl refl
every_change_carries (what.Interrupted o) P Q at sound may c = beside P.contents Q _ c refl refl
every_change_carries (what.Unknown o) P Q at sound may c = beside P.contents Q _ c refl refl
every_change_carries (what.Hold o) P Q at sound may c = beside P.contents Q _ c refl refl
every_change_carries (what.Release o) P Q at sound may c = beside P.contents Q _ c refl refl
every_change_carries (what.Nop o) P Q at sound may c = beside P.contents Q _ c refl refl
every_change_carries (what.Unnop o) P Q at sound may c = beside P.contents Q _ c refl refl
every_change_carries (what.Complete o) P Q at sound may c = beside P.contents Q _ c refl refl
every_change_carries (what.DeleteOccurrence x) P Q at sound may c = beside P.contents Q _ c refl refl
every_change_carries (what.AddDependency p s) P Q at sound may c = beside P.contents Q _ c refl refl

-- ---- keys

module _ (P Q : Plan) (carries : Carries P.contents Q.contents) where
  -- the key of a row of P may go, or is one of a row of Q
  still_keyed : (r : PlanRow) → IsRow P r → MayGo (key_of r) ⊎ HasKey Q (key_of r)
  still_keyed (row.Meta version loaded clock) h = inr (row.Meta 2 Q.loaded Q.clock, (refl, refl, refl), refl)
  still_keyed (row.Workstation w a) h =
      let old = mapped (λ ws. ws.attribute) (get P.contents.workstations w) a h in
      let ws = is_found (get Q.contents.workstations w) (carries.workstations w (ap is_some old.1)) in
      inr (row.Workstation w ws.0.attribute, ap (option_map (λ ws. ws.attribute)) ws.1, refl)
  still_keyed (row.Resource r available) h =
      let now = carries.resources r h.0 h.1 in
      inr (row.Resource r now.0.available, (now.0, now.1, refl), refl)
  still_keyed (row.Quantity r quantity) h =
      let now = carries.resources r h.0 h.1 in
      inr (row.Quantity r quantity, (now.0, now.1, now.2 ∙ h.2, h.3), refl)
  still_keyed (row.Interval w i) h = inl tt
  still_keyed (row.Occurrence c priority deadline status) h = inl tt
  still_keyed (row.Operation r) h = inl tt
  still_keyed (row.Dependency p s) h = inl tt
  still_keyed (row.Need o r mode keep) h = inl tt
  still_keyed (row.Amount o r amount) h = inl tt

  gone_may_go : (k : RowKey) → HasKey P k → ¬ HasKey Q k → MayGo k
  gone_may_go k old none = elim (still_keyed old.0 old.1) [
    | inl may ↦ subst MayGo old.2 may
    | inr now ↦ absurd (none (subst (HasKey Q) old.2 now))
  ]

pub only_these_go : OnlyTheseGo
only_these_go P Q q (accepted chosen) rows gone sound step are k has =
    let it = (are.has_gone k).0 has in
    let changed = every_change_carries q.what P step.changed q.at sound step.none_refuses step.changes in
    let carries : Carries P.contents Q.contents = subst (λ X. Carries P.contents X.contents) (sym step.is_after) (record { workstations = changed.workstations; resources = changed.resources }) in
    gone_may_go P Q carries k it.0 it.1
only_these_go P Q q (refused r) rows gone sound step are k has =
    let it = (are.has_gone k).0 has in
    absurd (it.1 (subst (λ X. HasKey X k) (sym step.is_after) it.0))
