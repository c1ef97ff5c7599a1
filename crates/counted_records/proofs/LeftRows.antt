-- Rows and pairs of which some stay.
use Rattle.std.proofs.Common.{◌≡◌, refl, sym, ap, subst, ◌∙◌, ◌&&◌, Bool, true, false, cond, List, [], ◌∷◌, Contains}
use Rattle.std.specs.Cmp.{IsTotalOrder, both_ways, first_so, second_so}
use Rattle.std.specs.FinMap.{FinMap, IsAntisymmetric, entries, from_entries, get, retain_keys}
use Rattle.std.specs.FinSet as set
use Rattle.std.specs.List.{filter}
use Rattle.std.specs.List.Sorted.{IsStrictlySortedBy}
use Rattle.std.specs.Map.{keys_of}
use Rattle.std.specs.declared.cmp.Ordering.{Ordering}
use Rattle.std.proofs.lemmas.List.Kept.{IsStrictlySortedBy-filter}
use Rattle.plan_changes.specs.plan_drafts.proofs.Tables.{from_set, get_row, in_set, row_found, rows_apart, same_entries}
use Rattle.plan_status.specs.plan_laws.proofs.Leaving.{stays_there, was_there}
use Rattle.plan_status.specs.plan_laws.proofs.LeftGraph.{from_kept, in_kept}
use Rattle.plan_status.specs.plan_model.proofs.Entries.{entries_are, entries_in_order}

-- the keys of the rows that pass a test of their keys are the keys that pass it
keys_passed : {K X : Type 0} (p : K → Bool) (rows : List (K × X)) → keys_of (filter (λ r. p r.0) rows) ≡ filter p (keys_of rows)
keys_passed p [] = refl
keys_passed p (r ∷ rows) = by_test (p r.0) (keys_passed p rows)
  where
    by_test : (b : Bool) → keys_of (filter (λ r. p r.0) rows) ≡ filter p (keys_of rows) → keys_of (cond b (r ∷ filter (λ r. p r.0) rows) (filter (λ r. p r.0) rows)) ≡ cond b (r.0 ∷ filter p (keys_of rows)) (filter p (keys_of rows))
    by_test true e = ap (λ ks. r.0 ∷ ks) e
    by_test false e = e

-- the rows of a map that pass a test of their keys
module _ {K X : Type 0} {R : K → K → Ordering} (total : IsTotalOrder R) (exact : IsAntisymmetric R) (m : FinMap R X) (p : K → Bool) where
  abbrev passed : List (K × X)
  passed = filter (λ r. p r.0) (entries m)

  -- are in order
  pub passed_in_order : IsStrictlySortedBy R (keys_of passed)
  passed_in_order = subst (IsStrictlySortedBy R) (sym (keys_passed p (entries m))) (IsStrictlySortedBy-filter R p (keys_of (entries m)) (entries_in_order R m))

  -- and are those of the map in which the keys that pass it stay
  pub passed_are : from_entries {R = R} passed ≡ retain_keys m p
  passed_are = same_entries total exact (from_entries passed) (retain_keys m p)
      (λ k x e.
      let here = from_kept (λ (r : K × X). p r.0) (entries m) (k, x) (row_found total exact passed k x e) in
      stays_there exact m p k x here.0 (ap (λ z. get z k) (sym (entries_are R total exact m)) ∙ get_row total exact (entries m) k x (rows_apart total exact (entries m) (entries_in_order R m)) here.1))
      (λ k x e.
      let was = was_there exact m p k x e in
      let has : Contains (entries m) (k, x) = row_found total exact (entries m) k x (ap (λ z. get z k) (entries_are R total exact m) ∙ was.1) in
      get_row total exact passed k x (rows_apart total exact passed passed_in_order) (in_kept (λ (r : K × X). p r.0) (entries m) (k, x) was.0 has))

-- the members of a list that pass a test are those of its set that pass it
module _ {K : Type 0} {R : K → K → Ordering} (total : IsTotalOrder R) (exact : IsAntisymmetric R) (ks : List K) (p : K → Bool) where
  pub set_passed : set.from_list {R = R} (filter p ks) ≡ set.retain (set.from_list ks) p
  set_passed = set.same_set total exact (set.from_list (filter p ks)) (set.retain (set.from_list ks) p) (λ k.
      let there = set.contains {R = R} (set.from_list ks) k in
      both_ways (set.contains {R = R} (set.from_list (filter p ks)) k) (there && p k)
      (λ e. let here = from_kept p ks k (from_set total exact (filter p ks) k e) in ap (λ b. b && p k) (in_set total exact ks k here.1) ∙ here.0)
      (λ e. in_set total exact (filter p ks) k (in_kept p ks k (second_so there (p k) e) (from_set total exact ks k (first_so there (p k) e))))
      ∙ sym (set.contains-retain (set.from_list ks) p k (λ x e. ap p (sym (exact k x e)))))
