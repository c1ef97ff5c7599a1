-- A load, a change of availability and new intervals keep a plan sound.
use Rattle.std.proofs.Common.{◌≡◌, inl, inr, refl, sym, ◌∙◌, ap, subst, true≢false, ◌≤◌, Bool, true, false, cond, List, Option, Some, None, option_map, is_some}
use Rattle.std.specs.Ordering.{eq_by_cmp}
use Rattle.std.specs.FinMap.{get, contains_key}
use Rattle.std.proofs.lemmas.Bool.{cond_both}
use Rattle.plan_basics.specs.declared.limits.TheConstants.{MOST_QUANTITY, MOST_RESOURCES, MOST_WORKSTATIONS}
use Rattle.plan_basics.specs.declared.Refusal.TheVariants as refusal
use Rattle.status_rules.specs.declared.Mark.TheVariants as mark
use Rattle.plan_records.specs.declared.What.TheVariants as what
use Rattle.plan_basics.specs.declared.moments.Interval.{Interval}
use Rattle.std.proofs.Common.{Vec, Global}
use Rattle.plan_basics.specs.Intervals.{OpenInterval}
use Rattle.plan_basics.specs.Keys.{Name, name_cmp, name_cmp-IsAntisymmetric}
use Rattle.plan_basics.specs.Names.{IsName, IsResourceName}
use Rattle.plan_laws.proofs.Entries.{same_operation}
use Rattle.special_resources.proofs.Amounts.{no_more, none_held}
use Rattle.plan_basics.specs.declared.keys.OpKey.{OpKey}
use Rattle.plan_records.specs.plan_drafts.proofs.Tables.{is_found}
use Rattle.plan_records.specs.plan_drafts.proofs.Needed.{mapped}
use Rattle.std.proofs.lemmas.Option.{same_Some}
use Rattle.plan_records.specs.plan_model.specs.Holdings.{Holds, holds_resource, takes}
use Rattle.plan_records.specs.plan_model.specs.Contents.{Contents, Operation, attribute_at, with_availability}
use Rattle.plan_records.specs.plan_model.specs.declared.Stock.{Stock}
use Rattle.plan_records.specs.plan_model.specs.Revise.{get-revise, len-revise, revise}
use Rattle.plan_records.specs.plan_model.specs.Status.{IsSatisfied, NeedsNoReport}
use Rattle.plan_records.specs.plan_model.specs.Valid.{IsSound, MayBear}
use Rattle.plan_records.specs.plan_drafts.specs.Drafts.{IsDraft}
use Rattle.plan_records.specs.Laws.{ChangeKeepsSound}
use Rattle.special_resources.specs.Holders.{HoldNoMoreThan, Usage}
use Rattle.status_rules.specs.LeastSet.{LeastSet, by_all_before, by_given}
use Rattle.status_rules.specs.Table.{marked_status}
use Rattle.plan_records.specs.plan_model.specs.workstations.proofs.Lookups.{opened_is}
use Rattle.plan_records.specs.plan_model.specs.workstations.specs.Workstations.{IsWorkstation, Workstation, with_intervals}

-- ---- a load

pub draft_is_sound : (P : Contents) → IsDraft P → IsSound P
draft_is_sound P d = record {
  valid = d.valid;
  in_order = λ o h. absurd (h.2.0 (d.untouched o h.0 h.1).0);
  compatible = λ a b r x y apart ha hb. absurd (true≢false (sym (ap (λ z. holds_resource x.keep (marked_status z)) (sym (d.untouched a ha.0 ha.1).0) ∙ ha.2.2)));
  within = λ r stock known. none_held same_operation r stock.quantity (Holds P) (λ o x h. true≢false (sym (ap (λ z. holds_resource x.keep (marked_status z)) (sym (d.untouched o h.0 h.1).0) ∙ h.2.2)));
  held = λ o op e h. inl (d.untouched o op e).0;
  marks = λ o op a e w. subst (MayBear a) (sym (d.untouched o op e).0) tt;
  deleted = λ a b e ha op hb. absurd (let k : mark.Unmarked ≡ mark.Deleted = sym (d.untouched a ha.0 ha.1).0 ∙ ha.2 in cc);
}

pub load_keeps_sound : (d : Contents) → ChangeKeepsSound (what.Load (Some d))
load_keeps_sound d P Q at sound may request c = subst IsSound (same_Some d Q c) (draft_is_sound d request)

-- ---- availability

module _ (P : Contents) (sound : IsSound P) (r : Name) (available : Bool) where
  abbrev made : Name → Stock → Stock
  made = with_availability r available

  abbrev after : Contents
  after = record P { resources = revise made P.resources }

  found_now : (n : Name) → get after.resources n ≡ option_map (made n) (get P.resources n)
  found_now n = get-revise name_cmp-IsAntisymmetric made P.resources n

  still_there : (n : Name) → contains_key P.resources n ≡ true → contains_key after.resources n ≡ true
  still_there n h = let one = is_found (get P.resources n) h in ap is_some (found_now n ∙ ap (option_map (made n)) one.1)

  -- what is found was of as much before, and what was found is of as much
  was_found : (n : Name) (stock : Stock) → get after.resources n ≡ Some stock → (old : Stock) × (get P.resources n ≡ Some old) × (old.quantity ≡ stock.quantity)
  was_found n stock e =
      let m = mapped (made n) (get P.resources n) stock (sym (found_now n) ∙ e) in
      (m.0, m.1, cond_both (eq_by_cmp name_cmp n r) (record m.0 { available = available }) m.0 (λ z. m.0.quantity ≡ z.quantity) (λ t. refl) (λ t. refl) ∙ ap (λ z. z.quantity) m.2)

  pub availability_is_sound : IsSound after
  availability_is_sound = let v = sound.valid in record {
    valid = record {
      workstations = v.workstations;
      resources = λ n stock e. let w = was_found n stock e in subst (λ q. IsResourceName n × (1 ≤ q) × (q ≤ MOST_QUANTITY)) w.2 (v.resources n w.0 w.1);
      occurrences = v.occurrences;
      have_workstations = v.have_workstations;
      have_resources = λ o op e n usage h. still_there n (v.have_resources o op e n usage h);
      amounts = λ o op e n usage h stock known. let w = was_found n stock known in subst (λ q. usage.claim.amount ≤ q) w.2 (v.amounts o op e n usage h w.0 w.1);
      pairs = v.pairs;
      acyclic = v.acyclic;
      limits = record { workstations = v.limits.workstations; resources = subst (λ n. n ≤ MOST_RESOURCES) (sym (len-revise made P.resources)) v.limits.resources; occurrences = v.limits.occurrences; operations = v.limits.operations; pairs = v.limits.pairs };
    };
    in_order = sound.in_order;
    compatible = sound.compatible;
    within = λ n stock known. let w = was_found n stock known in subst (λ q. HoldNoMoreThan q (Holds P) n) w.2 (sound.within n w.0 w.1);
    held = sound.held;
    marks = sound.marks;
    deleted = sound.deleted;
  }

pub availability_keeps_sound : (r : Name) (available : Bool) → ChangeKeepsSound (what.SetAvailable r available)
availability_keeps_sound r available P Q at sound may request c = subst IsSound (sym c) (availability_is_sound P.contents sound.contents r available)

-- ---- intervals

-- one least set lies in another
pub widened : {K : Type 0} {g p : K → Type 0} {b : K → K → Type 0} {h q : K → Type 0} {c : K → K → Type 0} → ((x : K) → g x → h x) → ((x : K) → p x → q x) → ((y x : K) → c y x → b y x) → {x : K} → LeastSet g p b x → LeastSet h q c x
widened f k d (by_given a) = by_given (f _ a)
widened f k d (by_all_before a all) = by_all_before (k _ a) (λ y e. widened f k d (all y (d y _ e)))

module _ (P : Contents) (sound : IsSound P) (w : Name) (known : contains_key P.workstations w ≡ true) (items : List OpenInterval) (fine : (ws : Workstation) → IsWorkstation (with_intervals items ws)) where
  abbrev reopened : Contents
  reopened = record P { workstations = revise (λ v ws. cond (eq_by_cmp name_cmp v w) (with_intervals items ws) ws) P.workstations }

  found_at : (v : Name) → get reopened.workstations v ≡ option_map (λ ws. cond (eq_by_cmp name_cmp v w) (with_intervals items ws) ws) (get P.workstations v)
  found_at v = get-revise name_cmp-IsAntisymmetric _ P.workstations v

  same_attributes : (b : Bool) (x : Option Workstation) → option_map (λ ws. ws.attribute) (option_map (λ ws. cond b (with_intervals items ws) ws) x) ≡ option_map (λ ws. ws.attribute) x
  same_attributes true (Some ws) = refl
  same_attributes false (Some ws) = refl
  same_attributes b None = refl

  same_attribute : (v : Name) → attribute_at reopened v ≡ attribute_at P v
  same_attribute v = ap (option_map (λ ws. ws.attribute)) (found_at v) ∙ same_attributes (eq_by_cmp name_cmp v w) (get P.workstations v)

  no_report : (op : Operation) → NeedsNoReport P op → NeedsNoReport reopened op
  no_report op (inl nop) = inl nop
  no_report op (inr on) = inr (same_attribute op.workstation ∙ on)

  still : {q : OpKey} → IsSatisfied P q → IsSatisfied reopened q
  still {q} s = widened (λ x h. h) (λ x h. (h.0, h.1, (h.2.0, h.2.1, no_report h.0 h.2.2))) (λ y x h. h) s

  held_before : (q : OpKey) (r : Name) (x : Usage) → Holds reopened q r x → Holds P q r x
  held_before q r x h = (h.0, h.1, (h.2.0, ap takes (sym (same_attribute h.0.workstation)) ∙ h.2.1, h.2.2))

  still_known : (v : Name) → contains_key P.workstations v ≡ true → contains_key reopened.workstations v ≡ true
  still_known v h = let one = is_found (get P.workstations v) h in ap is_some (found_at v ∙ ap (option_map (λ ws. cond (eq_by_cmp name_cmp v w) (with_intervals items ws) ws)) one.1)

  each_workstation : (v : Name) (ws : Workstation) → get reopened.workstations v ≡ Some ws → IsName 4 v × IsWorkstation ws
  each_workstation v ws e =
      let m = mapped (λ z. cond (eq_by_cmp name_cmp v w) (with_intervals items z) z) (get P.workstations v) ws (sym (found_at v) ∙ e) in
      let old = sound.valid.workstations v m.0 m.1 in
      (old.0, subst IsWorkstation m.2 (cond_both (eq_by_cmp name_cmp v w) (with_intervals items m.0) m.0 IsWorkstation (λ t. fine m.0) (λ t. old.1)))

  pub intervals_are_sound : IsSound reopened
  intervals_are_sound = let v = sound.valid in record {
    valid = record {
      workstations = each_workstation;
      resources = v.resources;
      occurrences = v.occurrences;
      have_workstations = λ o op e. still_known op.workstation (v.have_workstations o op e);
      have_resources = v.have_resources;
      amounts = v.amounts;
      pairs = v.pairs;
      acyclic = v.acyclic;
      limits = record { workstations = subst (λ n. n ≤ MOST_WORKSTATIONS) (sym (len-revise _ P.workstations)) v.limits.workstations; resources = v.limits.resources; occurrences = v.limits.occurrences; operations = v.limits.operations; pairs = v.limits.pairs };
    };
    in_order = λ o h p live. still (sound.in_order o h p live);
    compatible = λ a b r x y apart ha hb. sound.compatible a b r x y apart (held_before a r x ha) (held_before b r y hb);
    within = λ r stock known. no_more same_operation r stock.quantity (Holds P) (Holds reopened) (λ q x h. held_before q r x h) (sound.within r stock known);
    held = sound.held;
    marks = λ o op a e on. sound.marks o op a e (sym (same_attribute op.workstation) ∙ on);
    deleted = sound.deleted;
  }

pub intervals_keep_sound : (w : Name) (items : Vec Interval Global) → ChangeKeepsSound (what.ReplaceIntervals w items)
intervals_keep_sound w items P Q at sound may request c =
    subst IsSound (sym c) (intervals_are_sound P.contents sound.contents w (may refusal.UnknownWorkstation) items.items (opened_is items.items request (may refusal.BadPlan) (may refusal.Limit)))
