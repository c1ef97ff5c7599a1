-- The lists of operations, out of the views of all operations.
use Rattle.std.proofs.Common.{◌≡◌, ◌↔◌, ◌&&◌, ◌∙◌, true, false, refl, sym, ap, subst, Bool, List, map, Contains}
use Rattle.std.proofs.lemmas.Cmp.{tied_itself}
use Rattle.std.proofs.lemmas.List.Elements.{All-contains}
use Rattle.std.proofs.lemmas.Option.{same_Some}
use Rattle.std.specs.BTreeSet.{BTreeSet, IsFromIterResult}
use Rattle.std.specs.Cmp.{IsTotalOrder}
use Rattle.std.specs.List.{filter}
use Rattle.std.specs.Ordering.{eq_by_cmp, is_eq}
use Rattle.std.specs.declared.cmp.Ordering.{Ordering}
use Rattle.plan_basics.proofs.Members.{tied_is}
use Rattle.plan_basics.specs.Keys.{Name, name_cmp, name_cmp_total, name_cmp-IsAntisymmetric, occurrence_cmp_total, occurrence_cmp-IsAntisymmetric, operation_cmp, operation_cmp-IsAntisymmetric}
use Rattle.plan_basics.specs.declared.keys.OccKey.{OccKey}
use Rattle.plan_basics.specs.declared.keys.OpKey.{OpKey}
use Rattle.plan_checks.proofs.ReachedKeys.{all_in_plan}
use Rattle.plan_model.proofs.Members.{member_if}
use Rattle.plan_model.specs.Contents.{Contents, IsInPlan, Operation}
use Rattle.plan_model.specs.Starts.{Reaches}
use Rattle.plan_model.specs.Status.{HasStatus}
use Rattle.plan_model.specs.Valid.{IsValid}
use Rattle.plan_model.specs.ready_list.specs.Choice.{is_among}
use Rattle.plan_reasons.specs.plan_core.specs.Views.{AreOpViews, IsOpView}
use Rattle.plan_reasons.specs.plan_core.specs.declared.views.OpView.{OpView}
use Rattle.plan_reasons.specs.plan_drafts.proofs.Lists.{from_map, in_map}
use Rattle.status_rules.specs.declared.Status.{Status}
use Rattle.status_rules.specs.declared.Status.TheVariants.{Started}
use Rattle.tracker_receipts.specs.plan_laws.proofs.Standing.{one_status}
use Rattle.plan_shows.specs.Views.{AreViewsOf, IsOfOccurrence, IsStarted, IsStartedOn, has_key, is_of_occurrence, is_started, is_started_on}
use Rattle.plan_shows.proofs.Filters.{among, into_filter, passes, sorted_filtered}

-- ---- what the tests tell
both : (a b : Bool) → (a && b) ≡ true → (a ≡ true) × (b ≡ true)
both true b e = (refl, e)
both false b e = absurd cc

started_by : (s : Status) → is_started s ≡ true → s ≡ Started
started_by Started e = refl
started_by s e = absurd (cc)

pub same_is_tied : {K : Type 0} {R : K → K → Ordering} → IsTotalOrder R → (a b : K) → a ≡ b → eq_by_cmp R a b ≡ true
same_is_tied {R = R} total a b e = ap is_eq (ap (λ k. R k b) e ∙ tied_itself total b)

module _ (P : Contents) (valid : IsValid P) (views : List OpView) (are : AreOpViews P views) where
  -- those that pass a test which tells whether an operation is to be listed
  listed : (test : OpView → Bool) (IsListed : OpKey → Type 0) → ((o : OpKey) → IsListed o → IsInPlan P o) → ((v : OpView) → IsOpView P v → test v ≡ true → IsListed v.key)
      → ((v : OpView) → IsOpView P v → IsListed v.key → test v ≡ true) → AreViewsOf P IsListed (filter test views)
  listed test IsListed in_plan told tells = record {
    in_order = sorted_filtered test (λ (v : OpView). v.key) operation_cmp views are.in_order;
    every = λ o. (
      (λ has.
          let x = from_map (λ (v : OpView). v.key) (filter test views) o has in
          subst IsListed x.2 (told x.0 (are.each x.0 (among test views x.0 x.1)) (passes test views x.0 x.1))),
      (λ is.
          let x = from_map (λ (v : OpView). v.key) views o ((are.every o).1 (in_plan o is)) in
          let kept = into_filter test views x.0 x.1 (tells x.0 (are.each x.0 x.1) (subst IsListed (sym x.2) is)) in
          subst (Contains (map (λ (v : OpView). v.key) (filter test views))) x.2 (in_map (λ (v : OpView). v.key) (filter test views) x.0 kept)),
    );
    each = λ v has. are.each v (among test views v has);
  }

  started_told : (v : OpView) → IsOpView P v → is_started v.status ≡ true → IsStarted P v.key
  started_told v x e = subst (HasStatus P v.key) (started_by v.status e) x.status

  started_tells : (v : OpView) → IsOpView P v → IsStarted P v.key → is_started v.status ≡ true
  started_tells v x is = ap is_started (one_status P valid.acyclic v.key v.status Started x.status is)

  pub are_started : AreViewsOf P (IsStarted P) (filter (λ v. is_started v.status) views)
  are_started = listed (λ v. is_started v.status) (IsStarted P) (λ o is. (is.0, is.1, tt)) started_told started_tells

  pub are_started_on : (w : Name) → AreViewsOf P (IsStartedOn P w) (filter (is_started_on w) views)
  are_started_on w =
      listed (is_started_on w) (IsStartedOn P w) (λ o is. (is.0.0, is.0.1, tt))
      (λ v x e.
      let told = both _ _ e in
      (started_told v x told.0, (x.op, x.is_in_plan, sym x.work.0 ∙ tied_is name_cmp-IsAntisymmetric v.workstation w told.1)))
      (λ v x is.
      let same : x.op ≡ is.1.0 = same_Some x.op is.1.0 (sym x.is_in_plan ∙ is.1.1) in
      let there : v.workstation ≡ w = x.work.0 ∙ ap (λ (op : Operation). op.workstation) same ∙ is.1.2 in
      ap (λ b. b && eq_by_cmp name_cmp v.workstation w) (started_tells v x is.0) ∙ same_is_tied name_cmp_total v.workstation w there)

  pub are_of_occurrence : (k : OccKey) → AreViewsOf P (IsOfOccurrence P k) (filter (is_of_occurrence k) views)
  are_of_occurrence k =
      listed (is_of_occurrence k) (IsOfOccurrence P k) (λ o is. is.0)
      (λ v x e. ((x.op, x.is_in_plan, tt), tied_is occurrence_cmp-IsAntisymmetric v.key.occurrence k e))
      (λ v x is. same_is_tied occurrence_cmp_total v.key.occurrence k is.1)

  pub are_reached : (k : OpKey) → IsInPlan P k → (keys : List OpKey) → ((o : OpKey) → (is_among keys o ≡ true) ↔ Reaches P k o) → (set : BTreeSet OpKey) → IsFromIterResult operation_cmp keys set
      → AreViewsOf P (Reaches P k) (filter (has_key set) views)
  are_reached k there keys reached set made =
      listed (has_key set) (Reaches P k)
      (λ o r. All-contains (IsInPlan P) keys o (all_in_plan P k keys there reached) (member_if operation_cmp-IsAntisymmetric keys o ((reached o).1 r)))
      (λ v x e. (reached v.key).0 (sym (made.0 v.key) ∙ e))
      (λ v x r. made.0 v.key ∙ (reached v.key).1 r)
