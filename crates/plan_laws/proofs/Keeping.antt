-- What a plan has stays under its key at each request but an extension, except for open intervals: those alone go.
use Rattle.std.proofs.Common.{◌≡◌, ◌⊎◌, inl, inr, refl, sym, ◌∙◌, ap, subst, ℤ, Bool, true, false, cond, List, Option, Some, None, option_map, is_some}
use Rattle.std.proofs.lemmas.Bool.{or_left, or_right}
use Rattle.std.proofs.lemmas.Option.{none-some, same_Some}
use Rattle.std.specs.FinMap.{get, get-empty, contains_key}
use Rattle.std.specs.FinSet as set
use Rattle.std.specs.Ordering.{eq_by_cmp}
use Rattle.plan_basics.specs.Keys.{Name, name_cmp, name_cmp-IsAntisymmetric, occurrence_cmp, occurrence_cmp_total, operation_cmp, operation_cmp_total}
use Rattle.plan_basics.specs.declared.Refusal.TheVariants as refusal
use Rattle.plan_basics.specs.declared.keys.OccKey.{OccKey}
use Rattle.plan_basics.specs.declared.keys.OpKey.{OpKey}
use Rattle.plan_records.specs.plan_model.specs.ready_list.specs.Choice.{is_among}
use Rattle.status_rules.specs.declared.Mark.{Mark}
use Rattle.status_rules.specs.declared.Mark.TheVariants as mark
use Rattle.plan_records.specs.plan_model.specs.workstations.specs.Workstations.{Workstation, with_intervals}
use Rattle.plan_records.specs.plan_model.proofs.Looks.{as_named, get-named}
use Rattle.plan_records.specs.plan_model.specs.Contents.{AddedParts, Contents, Operation, Precedes, nothing, pair_cmp, with_availability}
use Rattle.plan_records.specs.plan_model.specs.Plan.{Plan, IsSoundPlan}
use Rattle.plan_records.specs.plan_model.specs.Ready.{named, with_mark}
use Rattle.plan_records.specs.plan_model.specs.Revise.{get-joined, get-revise, revise}
use Rattle.plan_records.specs.plan_model.specs.Valid.{IsValid}
use Rattle.plan_records.specs.plan_model.specs.declared.Stock.{Stock}
use Rattle.plan_records.specs.plan_drafts.proofs.Needed.{mapped}
use Rattle.plan_records.specs.plan_drafts.proofs.Tables.{is_found}
use Rattle.plan_records.specs.plan_drafts.specs.Drafts.{IsAddition}
use Rattle.plan_records.specs.plan_drafts.specs.declared.RowKey.{RowKey}
use Rattle.plan_records.specs.plan_drafts.specs.declared.RowKey.TheVariants as key
use Rattle.plan_records.specs.Acceptance.{MayBeAccepted, MayBeAdded}
use Rattle.plan_records.specs.Answer.{accepted, refused}
use Rattle.plan_records.specs.Changes.{Changes, IsRequest, is_at, revised, with_added, with_pair}
use Rattle.plan_records.specs.Rows.{HasKey, IsRow, key_of}
use Rattle.plan_records.specs.declared.PlanRow.{PlanRow}
use Rattle.plan_records.specs.declared.PlanRow.TheVariants as row
use Rattle.plan_records.specs.Step.{Step}
use Rattle.plan_records.specs.declared.Request.{Request}
use Rattle.plan_records.specs.declared.What.{What}
use Rattle.plan_records.specs.declared.What.TheVariants as what
use Rattle.plan_basics.specs.Refusals.{NoneRefuses}
use Rattle.plan_laws.proofs.ComingIn.{joined_first, not_own, only_first}
use Rattle.plan_laws.proofs.Every.{every_step_keeps_sound, no_pair, nothing_at, nothing_known}
use Rattle.plan_laws.proofs.Pairs.{pair_cmp_total}
use Rattle.plan_laws.proofs.Revised.{get-revised}
use Rattle.plan_laws.proofs.Tabling.{some_row}
use Rattle.plan_laws.proofs.Waiting.{some_occurrence_status}
use Rattle.plan_laws.specs.Tables.{IsExtending, IsIntervalKey, OnlyIntervalsGo}

-- what P has, Q has under the same keys; there is as much of a special resource, and an operation needs the same
record Carries (P Q : Contents) : Type 0 where
  pub workstations : (w : Name) → contains_key P.workstations w ≡ true → contains_key Q.workstations w ≡ true
  pub resources : (r : Name) (stock : Stock) → get P.resources r ≡ Some stock → (x : Stock) × (get Q.resources r ≡ Some x) × (x.quantity ≡ stock.quantity)
  pub occurrences : (c : OccKey) → contains_key P.occurrences c ≡ true → contains_key Q.occurrences c ≡ true
  pub operations : (o : OpKey) (op : Operation) → get P.operations o ≡ Some op → (x : Operation) × (get Q.operations o ≡ Some x) × (x.needs ≡ op.needs)
  pub pairs : (p s : OpKey) → Precedes P p s → Precedes Q p s

-- ---- each change

all_carried : (P : Contents) → Carries P P
all_carried P = record {
  workstations = λ w h. h;
  resources = λ r stock e. (stock, e, refl);
  occurrences = λ c h. h;
  operations = λ o op e. (op, e, refl);
  pairs = λ p s h. h;
}

carried_on : (P Q R : Contents) → Carries P Q → Carries Q R → Carries P R
carried_on P Q R a b = record {
  workstations = λ w h. b.workstations w (a.workstations w h);
  resources = λ r stock e. let x = a.resources r stock e in let y = b.resources r x.0 x.1 in (y.0, y.1, y.2 ∙ x.2);
  occurrences = λ c h. b.occurrences c (a.occurrences c h);
  operations = λ o op e. let x = a.operations o op e in let y = b.operations o x.0 x.1 in (y.0, y.1, y.2 ∙ x.2);
  pairs = λ p s h. b.pairs p s (a.pairs p s h);
}

nothing_carried : (Q : Contents) → Carries nothing Q
nothing_carried Q = record {
  workstations = λ w h. nothing_known (get nothing.workstations w) (get-empty name_cmp w) h;
  resources = λ r stock e. nothing_at (get nothing.resources r) stock (get-empty name_cmp r) e;
  occurrences = λ c h. nothing_known (get nothing.occurrences c) (get-empty occurrence_cmp c) h;
  operations = λ o op e. nothing_at (get nothing.operations o) op (get-empty operation_cmp o) e;
  pairs = λ p s h. absurd (no_pair p s h);
}

same_needs : (b : Bool) (x op : Operation) → x.needs ≡ op.needs → (cond b x op).needs ≡ op.needs
same_needs true x op e = e
same_needs false x op e = refl

revised_carried : (test : OpKey → Bool) (f : Operation → Operation) (P : Contents) → ((op : Operation) → (f op).needs ≡ op.needs) → Carries P (revised test f P)
revised_carried test f P keeps = record {
  workstations = λ w h. h;
  resources = λ r stock e. (stock, e, refl);
  occurrences = λ c h. h;
  operations = λ o op e. (cond (test o) (f op) op, get-revised test f P o ∙ ap (option_map (λ z. cond (test o) (f z) z)) e, same_needs (test o) (f op) op (keeps op));
  pairs = λ p s h. h;
}

marks_carried : (test : OpKey → Bool) (m : Mark) (P : Contents) → Carries P (revised test (with_mark m) P)
marks_carried test m P = revised_carried test (with_mark m) P (λ op. refl)

named_carried : (os : List OpKey) (P : Contents) → Carries P (named os P)
named_carried os P = record {
  workstations = λ w h. h;
  resources = λ r stock e. (stock, e, refl);
  occurrences = λ c h. h;
  operations = λ o op e. (as_named os o op, get-named os P o ∙ ap (option_map (as_named os o)) e, same_needs (is_among os o) (with_mark mark.Named op) op refl);
  pairs = λ p s h. h;
}

pair_carried : (P : Contents) (p s : OpKey) → Carries P (with_pair P p s)
pair_carried P p s = record {
  workstations = λ w h. h;
  resources = λ r stock e. (stock, e, refl);
  occurrences = λ c h. h;
  operations = λ o op e. (op, e, refl);
  pairs = λ a b h. set.contains-insert pair_cmp_total P.pairs (p, s) (a, b) ∙ or_right (eq_by_cmp pair_cmp (a, b) (p, s)) (set.contains P.pairs (a, b)) h;
}

-- what is added is new: nothing of the plan is replaced
addition_carried : (P : Contents) (s : AddedParts) → IsValid P → IsAddition s → MayBeAdded P s refusal.Duplicate → Carries P (with_added P s)
addition_carried P s valid addition new = record {
  workstations = λ w h. h;
  resources = λ r stock e. (stock, e, refl);
  occurrences = λ c h. joined_first occurrence_cmp_total P.occurrences s.occurrences c h;
  operations = λ o op e. (op, get-joined operation_cmp_total P.operations s.operations o ∙ only_first (get s.operations o) (get P.operations o) op (λ h. own_twice o op e (is_found (get s.operations o) h)) e, refl);
  pairs = λ p o h. set.contains-union pair_cmp_total P.pairs s.pairs (p, o) ∙ or_left (set.contains P.pairs (p, o)) (set.contains s.pairs (p, o)) h;
}
  where
    own_twice : (o : OpKey) (op : Operation) → get P.operations o ≡ Some op → (x : Operation) × (get s.operations o ≡ Some x) → ⊥
    own_twice o op e x = not_own P s valid new o (ap is_some e) (addition.extension.occurrences.each_operation o x.0 x.1).1

as_much : (b : Bool) (x stock : Stock) → x.quantity ≡ stock.quantity → (cond b x stock).quantity ≡ stock.quantity
as_much true x stock e = e
as_much false x stock e = refl

availability_carried : (P : Contents) (r : Name) (available : Bool) → Carries P (record P { resources = revise (with_availability r available) P.resources })
availability_carried P r available = record {
  workstations = λ w h. h;
  resources = λ n stock e. (
    with_availability r available n stock,
    get-revise name_cmp-IsAntisymmetric (with_availability r available) P.resources n ∙ ap (option_map (with_availability r available n)) e,
    as_much (eq_by_cmp name_cmp n r) (record stock { available = available }) stock refl,
  );
  occurrences = λ c h. h;
  operations = λ o op e. (op, e, refl);
  pairs = λ p s h. h;
}

workstations_carried : (P : Contents) (f : Name → Workstation → Workstation) → Carries P (record P { workstations = revise f P.workstations })
workstations_carried P f = record {
  workstations = λ v h. let one = is_found (get P.workstations v) h in ap is_some (get-revise name_cmp-IsAntisymmetric f P.workstations v ∙ ap (option_map (f v)) one.1);
  resources = λ r stock e. (stock, e, refl);
  occurrences = λ c h. h;
  operations = λ o op e. (op, e, refl);
  pairs = λ p s h. h;
}

-- what an accepted request changes carries over what there was
abbrev ChangeCarries : What → Type 0
ChangeCarries w = (P : Plan) (Q : Contents) (at : ℤ) → ¬ IsExtending w → IsSoundPlan P → NoneRefuses (MayBeAccepted P (record { at = at; what = w })) → IsRequest w → Changes P.contents w Q → Carries P.contents Q

changed_carried : (P Q R : Contents) → Q ≡ R → Carries P R → Carries P Q
changed_carried P Q R same h = subst (Carries P) (sym same) h

-- a load finds nothing there
load_carried : (draft : Option Contents) → ChangeCarries (what.Load draft)
load_carried draft P Q at others sound may request c = subst (λ X. Carries X.contents Q) (sym (sound.before_load (may refusal.Loaded tt))) (nothing_carried Q)

every_change_carries : (w : What) → ChangeCarries w
every_change_carries (what.Load draft) P Q at others sound may request c = load_carried draft P Q at others sound may request c
every_change_carries what.Tick P Q at others sound may request c = changed_carried _ Q _ c (all_carried P.contents)
every_change_carries (what.Started o) P Q at others sound may request c = changed_carried _ Q _ c (marks_carried (is_at o) mark.Running P.contents)
every_change_carries (what.Ended o) P Q at others sound may request c = changed_carried _ Q _ c (marks_carried (is_at o) mark.Done P.contents)
every_change_carries (what.Error o code) P Q at others sound may request c = changed_carried _ Q _ c (marks_carried (is_at o) (mark.Error code) P.contents)
every_change_carries (what.Interrupted o) P Q at others sound may request c = changed_carried _ Q _ c (marks_carried (is_at o) mark.Interrupted P.contents)
every_change_carries (what.Unknown o) P Q at others sound may request c = changed_carried _ Q _ c (marks_carried (is_at o) mark.Undecided P.contents)
every_change_carries (what.Hold o) P Q at others sound may request c = changed_carried _ Q _ c (revised_carried (is_at o) _ P.contents (λ op. refl))
every_change_carries (what.Release o) P Q at others sound may request c = changed_carried _ Q _ c (revised_carried (is_at o) _ P.contents (λ op. refl))
every_change_carries (what.Nop o) P Q at others sound may request c = changed_carried _ Q _ c (revised_carried (is_at o) _ P.contents (λ op. refl))
every_change_carries (what.Unnop o) P Q at others sound may request c = changed_carried _ Q _ c (revised_carried (is_at o) _ P.contents (λ op. refl))
every_change_carries (what.Rerun o) P Q at others sound may request c = changed_carried _ Q _ c.2 (marks_carried c.0 mark.Unmarked P.contents)
every_change_carries (what.Complete o) P Q at others sound may request c = changed_carried _ Q _ c (marks_carried (is_at o) mark.Done P.contents)
every_change_carries (what.DeleteOccurrence x) P Q at others sound may request c = changed_carried _ Q _ c (marks_carried (λ o. eq_by_cmp occurrence_cmp o.occurrence x) mark.Deleted P.contents)
every_change_carries (what.AddOccurrence None) P Q at others sound may request c = absurd (none-some c.0 c.1)
every_change_carries (what.AddOccurrence (Some s)) P Q at others sound may request c =
    changed_carried _ Q _ (c.2 ∙ ap (with_added P.contents) (sym (same_Some s c.0 c.1))) (addition_carried P.contents s sound.contents.valid request (may refusal.Duplicate))
every_change_carries (what.Extend a) P Q at others sound may request c = absurd (others tt)
every_change_carries (what.AddDependency p s) P Q at others sound may request c = changed_carried _ Q _ c (pair_carried P.contents p s)
every_change_carries (what.SetAvailable r available) P Q at others sound may request c = changed_carried _ Q _ c (availability_carried P.contents r available)
every_change_carries (what.ReplaceIntervals w items) P Q at others sound may request c =
    changed_carried _ Q _ c (workstations_carried P.contents (λ v ws. cond (eq_by_cmp name_cmp v w) (with_intervals items.items ws) ws))

-- ---- keys

module _ (P Q : Plan) (valid : IsValid Q.contents) (carries : Carries P.contents Q.contents) where
  -- the key of a row of P is an interval's, or one of a row of Q
  still_keyed : (r : PlanRow) → IsRow P r → IsIntervalKey (key_of r) ⊎ HasKey Q (key_of r)
  still_keyed (row.Meta version loaded clock) h = inr (row.Meta 2 Q.loaded Q.clock, (refl, refl, refl), refl)
  still_keyed (row.Workstation w a) h =
      let old = mapped (λ ws. ws.attribute) (get P.contents.workstations w) a h in
      let ws = is_found (get Q.contents.workstations w) (carries.workstations w (ap is_some old.1)) in
      inr (row.Workstation w ws.0.attribute, ap (option_map (λ ws. ws.attribute)) ws.1, refl)
  still_keyed (row.Interval w i) h = inl (w, i.from, refl)
  still_keyed (row.Resource r available) h =
      let now = carries.resources r h.0 h.1 in
      inr (row.Resource r now.0.available, (now.0, now.1, refl), refl)
  still_keyed (row.Occurrence c priority deadline status) h =
      let now = is_found (get Q.contents.occurrences c) (carries.occurrences c (ap is_some h.0)) in
      let status = some_occurrence_status Q.contents valid.acyclic c in
      inr (row.Occurrence c now.0.priority now.0.deadline status.0, (now.1, status.1), refl)
  still_keyed (row.Operation r) h =
      let now = carries.operations r.op h.op h.is_in_plan in
      let made = some_row Q.contents valid r.op now.0 now.1 in
      inr (row.Operation made.0, made.2, ap key.Operation made.1)
  still_keyed (row.Dependency p s) h = inr (row.Dependency p s, carries.pairs p s h, refl)
  still_keyed (row.Need o r mode keep) h =
      let now = carries.operations o h.0 h.1 in
      inr (row.Need o r mode keep, (now.0, now.1, (h.2.0, ap (λ needs. get needs r) now.2 ∙ h.2.1, h.2.2, h.2.3)), refl)
  still_keyed (row.Quantity r quantity) h =
      let now = carries.resources r h.0 h.1 in
      inr (row.Quantity r quantity, (now.0, now.1, now.2 ∙ h.2, h.3), refl)
  still_keyed (row.Amount o r amount) h =
      let now = carries.operations o h.0 h.1 in
      inr (row.Amount o r amount, (now.0, now.1, (h.2.0, ap (λ needs. get needs r) now.2 ∙ h.2.1, h.2.2, h.2.3)), refl)

  gone_is_interval : (k : RowKey) → HasKey P k → ¬ HasKey Q k → IsIntervalKey k
  gone_is_interval k old none = elim (still_keyed old.0 old.1) [
    | inl interval ↦ subst IsIntervalKey old.2 interval
    | inr now ↦ absurd (none (subst (HasKey Q) old.2 now))
  ]

-- what an accepted step of any other request leaves holds all keys but intervals'
step_carried : (P Q : Plan) (q : Request) (chosen : List OpKey) → ¬ IsExtending q.what → IsSoundPlan P → Step P q (accepted chosen) Q → Carries P.contents Q.contents
step_carried P Q q chosen others sound step =
    subst (λ X. Carries P.contents X.contents) (sym step.is_after)
    (carried_on P.contents step.changed (named chosen step.changed) (every_change_carries q.what P step.changed q.at others sound step.none_refuses step.is_request step.changes) (named_carried chosen step.changed))

pub only_intervals_go : OnlyIntervalsGo
only_intervals_go P Q q (accepted chosen) rows gone others sound step are k has =
    let it = (are.has_gone k).0 has in
    gone_is_interval P Q (every_step_keeps_sound P Q q (accepted chosen) sound step).contents.valid (step_carried P Q q chosen others sound step) k it.0 it.1
only_intervals_go P Q q (refused r) rows gone others sound step are k has =
    let it = (are.has_gone k).0 has in
    absurd (it.1 (subst (λ X. HasKey X k) (sym step.is_after) it.0))
