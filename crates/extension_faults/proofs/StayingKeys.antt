-- The keys of a plan's occurrences and operations, and those that stay.
use Rattle.std.proofs.Common.{◌≡◌, refl, sym, subst, true≢false, arith, true, List, [], Contains, Option, Some, is_some}
use Rattle.std.specs.FinMap.{FinMap, IsAntisymmetric, contains_key, entries, get, get-empty}
use Rattle.std.specs.Cmp.{IsTotalOrder}
use Rattle.std.specs.declared.cmp.Ordering.{Ordering}
use Rattle.std.specs.List.Sorted.{IsStrictlySortedBy}
use Rattle.std.specs.Map.{keys_of}
use Rattle.plan_basics.proofs.Members.{contains_none}
use Rattle.plan_basics.specs.Keys.{occurrence_cmp, occurrence_cmp_total, occurrence_cmp-IsAntisymmetric, operation_cmp, operation_cmp_total, operation_cmp-IsAntisymmetric}
use Rattle.plan_basics.specs.declared.keys.OccKey.{OccKey}
use Rattle.plan_basics.specs.declared.keys.OpKey.{OpKey}
use Rattle.plan_drafts.proofs.EntryRows.{among_keys, has_key}
use Rattle.plan_drafts.proofs.KeyPlaces.{different_in_order}
use Rattle.plan_drafts.proofs.Tables.{some_is}
use Rattle.plan_drafts.specs.plan_model.specs.Contents.{Contents, IsInPlan, Operation, nothing}
use Rattle.plan_drafts.specs.plan_model.specs.declared.Occurrence.{Occurrence}
use Rattle.plan_reasons.specs.plan_core.specs.plan_laws.proofs.Every.{nothing_known}
use Rattle.extension_faults.specs.Whole.{AreAll}

-- of no members none is kept
none_of : {X : Type 0} (P : X → Type 0) (xs : List X) → xs ≡ [] → ((x : X) → ¬ P x) → AreAll P xs
none_of {X} P xs empty never = subst (AreAll P) (sym empty) (record { once = λ i j d lt within. absurd (omega (arith, within)); each = λ x. (λ has. absurd (contains_none x has), λ p. absurd (never x p)) })

module _ {K X : Type 0} {R : K → K → Ordering} (total : IsTotalOrder R) (exact : IsAntisymmetric R) (m : FinMap R X) (keys : List K) (rows : List (K × X)) (of : keys ≡ keys_of rows) (same : rows ≡ entries m) (sorted : IsStrictlySortedBy R (keys_of rows)) where
  all_keys : AreAll (λ k. contains_key m k ≡ true) keys
  all_keys = subst (AreAll (λ k. contains_key m k ≡ true)) (sym of) (record {
    once = different_in_order total (keys_of rows) sorted;
    each = λ k. (
      λ has. let h = has_key total exact m k (subst (λ (rs : List (K × X)). Contains (keys_of rs) k) same has) in some_is (get m k) h.0 h.1,
      λ known. subst (λ (rs : List (K × X)). Contains (keys_of rs) k) (sym same) (among_keys total exact m k known),
    );
  })

pub occurrence_keys : (P : Contents) (keys : List OccKey) (rows : List (OccKey × Occurrence)) → keys ≡ keys_of rows → rows ≡ entries P.occurrences → IsStrictlySortedBy occurrence_cmp (keys_of rows) → AreAll (λ k. contains_key P.occurrences k ≡ true) keys
occurrence_keys P keys rows of same sorted = all_keys occurrence_cmp_total occurrence_cmp-IsAntisymmetric P.occurrences keys rows of same sorted

pub no_occurrence_keys : (P : Contents) (keys : List OccKey) → keys ≡ [] → P ≡ nothing → AreAll (λ k. contains_key P.occurrences k ≡ true) keys
no_occurrence_keys P keys empty none = none_of (λ k. contains_key P.occurrences k ≡ true) keys empty (λ k h. nothing_known (get nothing.occurrences k) (get-empty occurrence_cmp k) (subst (λ (C : Contents). contains_key C.occurrences k ≡ true) none h))

pub operation_keys : (P : Contents) (keys : List OpKey) (rows : List (OpKey × Operation)) → keys ≡ keys_of rows → rows ≡ entries P.operations → IsStrictlySortedBy operation_cmp (keys_of rows) → AreAll (IsInPlan P) keys
operation_keys P keys rows of same sorted =
    let all = all_keys operation_cmp_total operation_cmp-IsAntisymmetric P.operations keys rows of same sorted in
    record { once = all.once; each = λ k. (λ has. known_is (get P.operations k) ((all.each k).0 has), λ h. (all.each k).1 (some_is (get P.operations k) h.0 h.1)) }
  where
    known_is : (o : Option Operation) → is_some o ≡ true → (op : Operation) × (o ≡ Some op) × Unit {0}
    known_is (Some op) t = (op, refl, tt)
    known_is _ t = absurd (true≢false (sym t))

pub no_operation_keys : (P : Contents) (keys : List OpKey) → keys ≡ [] → P ≡ nothing → AreAll (IsInPlan P) keys
no_operation_keys P keys empty none = none_of (IsInPlan P) keys empty (λ k h. nothing_known (get nothing.operations k) (get-empty operation_cmp k) (subst (λ (C : Contents). contains_key C.operations k ≡ true) none (some_is (get P.operations k) h.0 h.1)))
