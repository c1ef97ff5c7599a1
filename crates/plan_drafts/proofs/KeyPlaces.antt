-- Indices of keys in order.
use Rattle.std.proofs.Common.{◌≡◌, ◌≢◌, true, true≢false, inl, inr, refl, sym, ap, subst, ◌∙◌, arith, ℕ, ◌+◌, ◌<◌, List, length, get_or, slice_get, Some, Contains, Option, Result, Ok, Err}
use Rattle.std.specs.Prelude.{MatchOption}
use Rattle.std.specs.Result.{result_ok}
use Rattle.std.specs.Cmp.{IsTotalOrder}
use Rattle.std.specs.FinMap.{IsAntisymmetric}
use Rattle.std.specs.List.Sorted.{IsStrictlySortedBy, IsSortedBy, IsBinarySearchResult, IsSearchInRange}
use Rattle.std.specs.Ordering.{is_eq, is_lt, ordering_reverse}
use Rattle.std.specs.declared.cmp.Ordering.{Ordering}
use Rattle.std.specs.declared.cmp.Ordering.TheVariants.{Less, Equal, Greater}
use Rattle.std.proofs.lemmas.Bool.{cases_lt}
use Rattle.std.proofs.lemmas.Cmp.{tied_itself}
use Rattle.std.proofs.lemmas.List.Sorted.{searchable_from_sorted}
use Rattle.std.proofs.lemmas.Map.Keys.{Less-from_sorted}
use Rattle.std.proofs.lemmas.Option.{slice_get-get_or, slice_get_within, get_or_from_slice_get}
use Rattle.plan_model.specs.operation_graph.specs.Graphs.{AreDifferent}
pub use Rattle.plan_model.specs.operation_graph.proofs.SetMembers.{in_listed, listed_in}
use Rattle.plan_basics.specs.Keys.{operation_cmp_total, operation_cmp-IsAntisymmetric}
use Rattle.plan_basics.proofs.PairOrders.{by_two_total, by_two-IsAntisymmetric}
use Rattle.plan_model.specs.Contents.{pair_cmp}

pub pair_cmp_total : IsTotalOrder pair_cmp
pair_cmp_total = by_two_total operation_cmp_total operation_cmp_total

pub pair_cmp-IsAntisymmetric : IsAntisymmetric pair_cmp
pair_cmp-IsAntisymmetric = by_two-IsAntisymmetric operation_cmp-IsAntisymmetric operation_cmp-IsAntisymmetric

module _ {K : Type 0} {R : K → K → Ordering} (total : IsTotalOrder R) where
  -- no key is below itself
  not_below : (a b : K) → R a b ≡ Less → a ≢ b
  not_below a b less same = let less' : R a a ≡ Less = subst (λ z. R a z ≡ Less) (sym same) less in let tied = tied_itself total a in cc

  -- keys in order are different
  pub different_in_order : (ks : List K) → IsStrictlySortedBy R ks → AreDifferent ks
  different_in_order ks sorted i j d lt within = not_below (get_or ks i d) (get_or ks j d) (Less-from_sorted R ks i j d sorted lt within)

  -- so that each is at one index
  pub one_place : (ks : List K) → IsStrictlySortedBy R ks → (i j : ℕ) (k : K) → slice_get ks i ≡ Some k → slice_get ks j ≡ Some k → i ≡ j
  one_place ks sorted i j k at_i at_j = elim (cases_lt i j) [
    | inl lt ↦ absurd (never i j lt at_i at_j)
    | inr ge ↦ elim (cases_lt j i) [ inl gt ↦ absurd (never j i gt at_j at_i) | inr le ↦ omega (arith, ge, le) ]
  ]
    where
      never : (a b : ℕ) → a < b → slice_get ks a ≡ Some k → slice_get ks b ≡ Some k → ⊥
      never a b lt at_a at_b =
          different_in_order ks sorted a b k lt (slice_get_within ks b k at_b)
          (get_or_from_slice_get ks a k k at_a ∙ sym (get_or_from_slice_get ks b k k at_b))

  -- keys in strict order are in order
  pub sorted_from_strict : (ks : List K) → IsStrictlySortedBy R ks → IsSortedBy (λ a b. is_lt (R a b)) ks
  sorted_from_strict ks up = λ k d low high. ap is_lt (total.antisymm (get_or ks (k + 1) d) (get_or ks k d) ∙ ap ordering_reverse (Less-from_sorted R ks k (k + 1) d up (omega arith) high))

  module _ (exact : IsAntisymmetric R) where
    -- a search among keys in order finds one that is there
    pub search_places : (ks : List K) (k : K) (r : Result ℕ ℕ) → IsSearchInRange r (length ks) → IsBinarySearchResult (λ y. R y k) ks r → IsStrictlySortedBy R ks → Contains ks k
        → (i : ℕ) × (r ≡ Ok i) × (slice_get ks i ≡ Some k)
    search_places ks k (Ok i) within h sorted has = (i, refl, slice_get-get_or ks i k within ∙ ap Some (exact (get_or ks i k) k (h k)))
    search_places ks k (Err i) within h sorted (j, lt, is) =
        let parts = h (searchable_from_sorted total (λ y. y) ks k (sorted_from_strict ks sorted)) in
        let tied : R (get_or ks j k) k ≡ Equal = subst (λ z. R z k ≡ Equal) (sym is) (tied_itself total k) in
        absurd (elim (cases_lt j i) [
          | inl before ↦ let less : R (get_or ks j k) k ≡ Less = parts.0 j k (omega arith) before in cc
          | inr after ↦ let greater : R (get_or ks j k) k ≡ Greater = parts.1 j k after lt in cc
        ])

    -- and it shows where a key is, or that it isn't there
    pub searched : (ks : List K) (k : K) (r : Result ℕ ℕ) → IsSearchInRange r (length ks) → IsBinarySearchResult (λ y. R y k) ks r → IsStrictlySortedBy R ks → (place : Option ℕ) → place ≡ result_ok r
        → MatchOption place (¬ Contains ks k) (λ i. slice_get ks i ≡ Some k)
    searched ks k r within h sorted place is = rw is (shown r within h)
      where
        shown : (r : Result ℕ ℕ) → IsSearchInRange r (length ks) → IsBinarySearchResult (λ y. R y k) ks r → MatchOption (result_ok r) (¬ Contains ks k) (λ i. slice_get ks i ≡ Some k)
        shown (Ok i) within h = slice_get-get_or ks i k within ∙ ap Some (exact (get_or ks i k) k (h k))
        shown (Err i) within h = λ has. let there = search_places ks k (Err i) within h sorted has in let same = there.1 in cc

    -- a key that ties with the one at an index is that one
    pub tied_at : (ks : List K) (i : ℕ) (k seen : K) → i < length ks → seen ≡ get_or ks i seen → (o : Ordering) → o ≡ R seen k → true ≡ is_eq o → slice_get ks i ≡ Some k
    tied_at ks i k seen within is o told tied = slice_get-get_or ks i seen within ∙ ap Some (sym is ∙ exact seen k (sym told ∙ at_eq o tied))
      where
        at_eq : (o : Ordering) → true ≡ is_eq o → o ≡ Equal
        at_eq Less e = absurd (true≢false e)
        at_eq Equal e = refl
        at_eq Greater e = absurd (true≢false e)
