-- The dependencies of an occurrence, out of all pairs of the plan in order.
use Rattle.std.proofs.Common.{◌≡◌, ◌⊎◌, ◌∙◌, ◌||◌, inl, inr, sym, ap, List, [], All, Contains, true}
use Rattle.std.proofs.lemmas.Bool.{or_cases, or_right}
use Rattle.std.proofs.lemmas.List.Kept.{IsStrictlySortedBy-filter}
use Rattle.std.specs.FinSet as set
use Rattle.std.specs.List.{AllZip, filter}
use Rattle.std.specs.List.Sorted.{IsStrictlySortedBy}
use Rattle.std.specs.Ordering.{eq_by_cmp}
use Rattle.plan_basics.proofs.Members.{all_by_members, tied_is}
use Rattle.plan_basics.specs.Keys.{occurrence_cmp, occurrence_cmp_total, occurrence_cmp-IsAntisymmetric}
use Rattle.plan_basics.specs.declared.keys.OccKey.{OccKey}
use Rattle.plan_basics.specs.declared.keys.OpKey.{OpKey}
use Rattle.plan_model.specs.Contents.{Contents, Pairs, Precedes, nothing, pair_cmp}
use Rattle.plan_model.specs.Valid.{IsValid}
use Rattle.plan_model.specs.operation_graph.proofs.SetMembers.{in_listed, listed_in}
use Rattle.plan_reasons.specs.plan_drafts.proofs.KeyPlaces.{pair_cmp_total, pair_cmp-IsAntisymmetric}
use Rattle.plan_reasons.specs.plan_drafts.proofs.Tables.{is_found}
use Rattle.plan_shows.specs.Dependencies.{AreDependencyViews, AreInPlan, IsDependencyOf, IsDependencyView, has_end_in}
use Rattle.plan_shows.specs.declared.dependencies.DependencyView.{DependencyView}
use Rattle.plan_shows.proofs.Filters.{among, into_filter, passes}
use Rattle.plan_shows.proofs.OperationLists.{same_is_tied}

-- ---- what the test tells
end_told : (c : OccKey) (x : OpKey × OpKey) → has_end_in c x ≡ true → (x.0.occurrence ≡ c) ⊎ (x.1.occurrence ≡ c)
end_told c x e =
    elim (or_cases (eq_by_cmp occurrence_cmp x.0.occurrence c) (eq_by_cmp occurrence_cmp x.1.occurrence c) e) [
      | inl first ↦ inl (tied_is occurrence_cmp-IsAntisymmetric x.0.occurrence c first)
      | inr second ↦ inr (tied_is occurrence_cmp-IsAntisymmetric x.1.occurrence c second)
    ]

end_tells : (c : OccKey) (x : OpKey × OpKey) → (x.0.occurrence ≡ c) ⊎ (x.1.occurrence ≡ c) → has_end_in c x ≡ true
end_tells c x (inl same) = ap (λ b. b || eq_by_cmp occurrence_cmp x.1.occurrence c) (same_is_tied occurrence_cmp_total x.0.occurrence c same)
end_tells c x (inr same) = or_right (eq_by_cmp occurrence_cmp x.0.occurrence c) _ (same_is_tied occurrence_cmp_total x.1.occurrence c same)

module _ (P : Contents) (rows : List (OpKey × OpKey)) (same : set.from_list rows ≡ P.pairs) where
  of_plan : (x : OpKey × OpKey) → Contains rows x → Precedes P x.0 x.1
  of_plan x has = ap (λ (pairs : Pairs). set.contains pairs x) (sym same) ∙ in_listed pair_cmp_total pair_cmp-IsAntisymmetric rows x has

  in_rows : (x : OpKey × OpKey) → Precedes P x.0 x.1 → Contains rows x
  in_rows x is = listed_in pair_cmp_total pair_cmp-IsAntisymmetric rows x (ap (λ (pairs : Pairs). set.contains pairs x) same ∙ is)

  -- their ends are in the plan
  pub ends_there : IsValid P → (c : OccKey) → All (AreInPlan P) (filter (has_end_in c) rows)
  ends_there valid c = all_by_members (AreInPlan P) (filter (has_end_in c) rows) (λ x has.
      let known = valid.pairs x.0 x.1 (of_plan x (among (has_end_in c) rows x has)) in
      let first = is_found _ known.0 in
      let second = is_found _ known.1 in
      ((first.0, first.1, tt), (second.0, second.1, tt)))

  pub are_dependencies : (c : OccKey) (views : List DependencyView) → IsStrictlySortedBy pair_cmp rows → AllZip (IsDependencyView P) (filter (has_end_in c) rows) views → AreDependencyViews P c views
  are_dependencies c views up shown = record {
    pairs = filter (has_end_in c) rows;
    in_order = IsStrictlySortedBy-filter pair_cmp (has_end_in c) rows up;
    every = λ x. (
      (λ has. (of_plan x (among (has_end_in c) rows x has), end_told c x (passes (has_end_in c) rows x has))),
      (λ is. into_filter (has_end_in c) rows x (in_rows x is.0) (end_tells c x is.1)),
    );
    each = shown;
  }

-- before a plan is loaded there is none
pub no_dependencies : (P : Contents) (c : OccKey) → P ≡ nothing → AreDependencyViews P c []
unfolding IsStrictlySortedBy
no_dependencies P c none = are_dependencies P [] (ap (λ (Q : Contents). Q.pairs) (sym none)) c [] tt tt
