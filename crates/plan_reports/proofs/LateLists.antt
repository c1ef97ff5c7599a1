-- The list of what is late, out of the views of all operations.
use Rattle.std.proofs.Common.{◌≡◌, ◌≢◌, ◌&&◌, inl, inr, true, false, refl, sym, ap, subst, ◌∙◌, arith, ℤ, pos, ◌<ℤ◌, int_lt, Bool, List, map, Contains}
use Rattle.std.proofs.lemmas.Int.{by_lt_z, ints}
use Rattle.std.proofs.lemmas.List.Sorted.{Contains-permutation, IsPermutation-sym}
use Rattle.std.specs.Cmp.{IsTotalOrder, int_cmp_total, on_total, then_total}
use Rattle.std.specs.FinMap.{IsAntisymmetric, int_cmp-IsAntisymmetric}
use Rattle.std.specs.List.{filter}
use Rattle.std.specs.List.Sorted.{IsPermutation, IsSortedByKey}
use Rattle.std.specs.Ordering.{int_cmp}
use Rattle.plan_basics.specs.Keys.{operation_cmp, operation_cmp_total, operation_cmp-IsAntisymmetric, then_IsAntisymmetric}
use Rattle.plan_basics.specs.declared.keys.OpKey.{OpKey}
use Rattle.desk_tables.specs.plan_core.specs.Views.{AreOpViews, IsOpView}
use Rattle.desk_tables.specs.plan_core.specs.declared.views.OpView.{OpView}
use Rattle.plan_shows.specs.plan_reasons.specs.plan_drafts.proofs.Keyed.{ascend_by}
use Rattle.plan_shows.specs.plan_reasons.specs.plan_drafts.proofs.Lists.{differ_unmap, differ_weaken, from_map, in_map, pairs_from_differ}
use Rattle.plan_shows.specs.plan_reasons.specs.plan_drafts.proofs.Tables.{sorted_apart}
use Rattle.desk_tables.specs.plan_laws.proofs.Classes.{classes_of_status}
use Rattle.desk_tables.specs.plan_laws.proofs.Latest.{each_has_one_latest_start}
use Rattle.plan_model.specs.Contents.{Contents, IsInPlan}
use Rattle.plan_model.specs.Status.{IsWaitingOrReady}
use Rattle.plan_model.specs.Plan.{Plan, IsSoundPlan}
use Rattle.plan_shows.proofs.Filters.{among, differ_filtered, into_filter, passes}
use Rattle.plan_reports.specs.Late.{AreLateViews, IsLate, due, due_cmp, is_late}

-- ---- the order of what is late
pub due_total : IsTotalOrder due_cmp
due_total = then_total (on_total (λ (x : ℤ × OpKey). x.0) int_cmp_total) (on_total (λ (x : ℤ × OpKey). x.1) operation_cmp_total)

pub due_exact : IsAntisymmetric due_cmp
due_exact = then_IsAntisymmetric {R = int_cmp} {S = operation_cmp} (λ (x : ℤ × OpKey). x.0) (λ x. x.1) (λ x y p q i. (p i, q i)) int_cmp-IsAntisymmetric operation_cmp-IsAntisymmetric

-- ---- what the test tells
both : (a b : Bool) → (a && b) ≡ true → (a ≡ true) × (b ≡ true)
both true b e = (refl, e)
both false b e = absurd cc

before : (a b : ℤ) → int_lt a b ≡ true → a <ℤ b
before a b e = by_lt_z a b (λ h. h) (λ h. grind (arith, ints))

is_before : (a b : ℤ) → a <ℤ b → int_lt a b ≡ true
is_before a b h = grind (arith, ints)

in_plan : (P : Contents) (o : OpKey) → IsWaitingOrReady P o → IsInPlan P o
in_plan P o (inl h) = (h.0, h.1, tt)
in_plan P o (inr (inl h)) = (h.0, h.1, tt)
in_plan P o (inr (inr (inl h))) = (h.0, h.1, tt)
in_plan P o (inr (inr (inr h))) = (h.0, h.1, tt)

module _ (P : Plan) (sound : IsSoundPlan P) (views : List OpView) (are : AreOpViews P.contents views) where
  view_late : (v : OpView) → IsOpView P.contents v → is_late P.clock v ≡ true → IsLate P v.key
  view_late v view e =
      let told = both _ _ e in
      ((classes_of_status P.contents sound.contents.valid v.key v.status view.status).waiting_or_ready.1 told.0, (v.latest, view.latest, before v.latest (pos P.clock) told.1))

  late_view : (v : OpView) → IsOpView P.contents v → IsLate P v.key → is_late P.clock v ≡ true
  late_view v view late =
      let waits = (classes_of_status P.contents sound.contents.valid v.key v.status view.status).waiting_or_ready.0 late.0 in
      let one = each_has_one_latest_start P.contents sound.contents.valid v.key in
      let same : v.latest ≡ late.1.0 = one.2 v.latest view.latest ∙ sym (one.2 late.1.0 late.1.1) in
      let early = is_before v.latest (pos P.clock) (subst (λ z. z <ℤ pos P.clock) (sym same) late.1.2) in
      ap (λ b. b && int_lt v.latest (pos P.clock)) waits ∙ early

  module _ (made : List OpView) (same : IsPermutation (filter (is_late P.clock) views) made) where
    there : (v : OpView) → Contains made v → Contains (filter (is_late P.clock) views) v
    there v has = Contains-permutation made (filter (is_late P.clock) views) v (IsPermutation-sym (filter (is_late P.clock) views) made same) has

    pub are_late_views : IsSortedByKey due due_cmp made → AreLateViews P made
    are_late_views sorted = record {
      in_order =
          ascend_by due_total due_exact due (filter (is_late P.clock) views) made same sorted
          (pairs_from_differ (λ a b. due a ≢ due b) (filter (is_late P.clock) views)
          (differ_filtered (is_late P.clock) (λ a b. due a ≢ due b) views
          (differ_weaken (λ a b. a.key ≢ b.key) (λ a b. due a ≢ due b) views (λ a b in_a in_b apart e. apart (ap (λ (x : ℤ × OpKey). x.1) e))
          (differ_unmap (λ (v : OpView). v.key) (λ a b. a ≢ b) views (sorted_apart operation_cmp_total operation_cmp-IsAntisymmetric (map (λ v. v.key) views) are.in_order)))));
      every = λ o. (
        (λ has.
            let x = from_map (λ (v : OpView). v.key) made o has in
            let passed = there x.0 x.1 in
            subst (IsLate P) x.2 (view_late x.0 (are.each x.0 (among (is_late P.clock) views x.0 passed)) (passes (is_late P.clock) views x.0 passed))),
        (λ late.
            let x = from_map (λ (v : OpView). v.key) views o ((are.every o).1 (in_plan P.contents o late.0)) in
            let kept = into_filter (is_late P.clock) views x.0 x.1 (late_view x.0 (are.each x.0 x.1) (subst (IsLate P) (sym x.2) late)) in
            subst (Contains (map (λ v. v.key) made)) x.2 (in_map (λ (v : OpView). v.key) made x.0 (Contains-permutation (filter (is_late P.clock) views) made x.0 same kept))),
      );
      each = λ v has. are.each v (among (is_late P.clock) views v (there v has));
    }
