-- Members of a list that are kept, one after another, and the pairs of a plan.
use Rattle.std.proofs.Common.{◌≡◌, ◌≢◌, ◌↔◌, inl, inr, refl, sym, ap, subst, ◌∙◌, true≢false, arith, ℕ, zero, suc, ◌+◌, ◌<◌, ◌≤◌, Bool, true, false, IsTrue, List, [], ◌∷◌, ◌++◌, length, take, get_or, slice_get, AllPairs, Contains, Some}
use Rattle.std.specs.Prelude.{if◌then◌else◌}
use Rattle.std.specs.FinSet as set
use Rattle.std.specs.List.Sorted.{IsStrictlySortedBy}
use Rattle.std.proofs.lemmas.List.{append-nil, take_all, take_more}
use Rattle.std.proofs.lemmas.List.Elements.{Contains-append_left, Contains-get_or, Contains-push, Contains-push_cases}
use Rattle.std.proofs.lemmas.List.Quantifiers.{all_pairs_push}
use Rattle.std.proofs.lemmas.Option.{get_or_from_slice_get}
use Rattle.plan_basics.proofs.Members.{contains_cases, contains_none}
use Rattle.plan_basics.specs.declared.keys.OpKey.{OpKey}
use Rattle.plan_drafts.proofs.KeyPlaces.{different_in_order, in_listed, listed_in, pair_cmp_total, pair_cmp-IsAntisymmetric}
use Rattle.plan_drafts.specs.plan_model.specs.Contents.{Contents, Pairs, nothing, pair_cmp}
use Rattle.extension_faults.specs.Whole.{AreAll, AreAllBefore, IsPairThere}

-- what is among the first n stands before the n-th
before_it : {X : Type 0} (n : ℕ) (all : List X) (x : X) → Contains (take n all) x → (j : ℕ) × (j < n) × (slice_get all j ≡ Some x)
before_it zero all x has = absurd (contains_none x has)
before_it (suc n) [] x has = absurd (contains_none x has)
before_it (suc n) (a ∷ all) x has = elim (contains_cases a (take n all) x has) [
  | inl same ↦ (0, omega arith, ap Some same)
  | inr later ↦ let r = before_it n all x later in let lt = r.1 in (suc r.0, omega (arith, lt), r.2)
]

module _ {X : Type 0} (P : X → Type 0) (all : List X) where
  pub none_kept : AreAllBefore P all 0 []
  none_kept = record { once = λ i j d lt within. absurd (omega (arith, within)); each = λ x. (λ has. absurd (contains_none x has), λ h. absurd (contains_none x h.0)) }

  -- of all members those are kept of which it is so
  pub all_kept : (n : ℕ) (kept : List X) → length all ≤ n → ((x : X) → P x → Contains all x) → AreAllBefore P all n kept → AreAll P kept
  all_kept n kept le there are = record {
    once = are.once;
    each = λ x. (λ has. ((are.each x).0 has).1, λ p. (are.each x).1 (subst (λ xs. Contains xs x) (sym (take_all n all le)) (there x p), p));
  }

  -- one member more
  module _ (apart : AllPairs (λ (a b : X). a ≢ b) all) (n : ℕ) (x : X) (lt : n < length all) (at : x ≡ get_or all n x) where
    front : take (n + 1) all ≡ take n all ++ x ∷ []
    front = take_more all n x lt ∙ ap (λ z. take n all ++ z ∷ []) (sym at)

    not_yet : (y : X) → Contains (take n all) y → y ≢ x
    not_yet y has same =
        let r = before_it n all y has in
        apart r.0 n x r.1 lt (get_or_from_slice_get all r.0 y x r.2 ∙ same ∙ at)

    pub keep_more : (is : Bool) (kept new : List X) → IsTrue is ↔ P x → new ≡ kept ++ (if is then x ∷ [] else []) → AreAllBefore P all n kept → AreAllBefore P all (n + 1) new
    keep_more true kept new so same are = record {
      once = subst (AllPairs (λ (a b : X). a ≢ b)) (sym same) (all_pairs_push (λ (a b : X). a ≢ b) kept x are.once (λ k d within. not_yet (get_or kept k d) ((are.each (get_or kept k d)).0 (Contains-get_or kept k d within)).0));
      each = λ y. (
        λ has. elim (Contains-push_cases kept x y (subst (λ xs. Contains xs y) same has)) [
          | inl old ↦ let h = (are.each y).0 old in (subst (λ xs. Contains xs y) (sym front) (Contains-append_left (take n all) (x ∷ []) y h.0), h.1)
          | inr is ↦ (subst (λ xs. Contains xs y) (sym front) (subst (Contains (take n all ++ x ∷ [])) is (Contains-push (take n all) x)), subst P is (so.0 refl))
        ],
        λ h. subst (λ xs. Contains xs y) (sym same) (elim (Contains-push_cases (take n all) x y (subst (λ xs. Contains xs y) front h.0)) [
          | inl old ↦ Contains-append_left kept (x ∷ []) y ((are.each y).1 (old, h.1))
          | inr is ↦ subst (Contains (kept ++ x ∷ [])) is (Contains-push kept x)
        ]),
      );
    }
    keep_more false kept new so same are =
        let as_before : new ≡ kept = same ∙ append-nil kept in record {
          once = subst (AllPairs (λ (a b : X). a ≢ b)) (sym as_before) are.once;
          each = λ y. (
            λ has. let h = (are.each y).0 (subst (λ xs. Contains xs y) as_before has) in (subst (λ xs. Contains xs y) (sym front) (Contains-append_left (take n all) (x ∷ []) y h.0), h.1),
            λ h. subst (λ xs. Contains xs y) (sym as_before) (elim (Contains-push_cases (take n all) x y (subst (λ xs. Contains xs y) front h.0)) [
              | inl old ↦ (are.each y).1 (old, h.1)
              | inr is ↦ absurd (true≢false (sym (so.1 (subst P (sym is) h.1))))
            ]),
          );
        }

-- ---- the pairs of a plan
pub pairs_there : (P : Contents) (listed : List (OpKey × OpKey)) → set.from_list {R = pair_cmp} listed ≡ P.pairs → IsStrictlySortedBy pair_cmp listed → AreAll (IsPairThere P) listed
pairs_there P listed same sorted = record {
  once = different_in_order pair_cmp_total listed sorted;
  each = λ x. (
    λ has. subst (λ (ps : Pairs). set.contains ps x ≡ true) same (in_listed pair_cmp_total pair_cmp-IsAntisymmetric listed x has),
    λ h. listed_in pair_cmp_total pair_cmp-IsAntisymmetric listed x (subst (λ (ps : Pairs). set.contains ps x ≡ true) (sym same) h),
  );
}

-- before a plan is loaded there are none
pub no_pairs_there : (P : Contents) → P ≡ nothing → AreAll (IsPairThere P) []
no_pairs_there P none = record {
  once = λ i j d lt within. absurd (omega (arith, within));
  each = λ x. (
    λ has. absurd (contains_none x has),
    λ h. absurd (true≢false (sym (subst (λ (Q : Contents). set.contains Q.pairs x ≡ true) none h) ∙ set.contains-empty pair_cmp x)),
  );
}
