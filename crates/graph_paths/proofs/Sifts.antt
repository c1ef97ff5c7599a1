-- Nodes in ascending order, and those of them that are kept.
use Rattle.std.proofs.Common.{◌≡◌, ◌⊎◌, ◌↔◌, inl, inr, refl, sym, ap, subst, ◌∙◌, arith, ℕ, ◌<◌, eqb, List, [], ◌∷◌, ◌++◌, length, Contains}
use Rattle.std.specs.List.{remove}
use Rattle.std.specs.List.Sorted.{IsNonDecreasing, IsPermutation}
use Rattle.std.proofs.lemmas.Bool.{cases_eq}
use Rattle.std.proofs.lemmas.Bool.Decides.{Decides-eqb}
use Rattle.std.proofs.lemmas.List.{append_assoc, append-nil}
use Rattle.std.proofs.lemmas.List.Elements.{Contains-append_left, Contains-push, Contains-push_cases}
use Rattle.std.proofs.lemmas.List.Kept.{AllPairs-from_increasing}
use Rattle.std.proofs.lemmas.List.Quantifiers.{all_pairs_remove}
use Rattle.std.proofs.lemmas.List.Sorted.{Contains-permutation, IsPermutation-sym}
use Rattle.std.proofs.lemmas.Map.Keys.{IsDistinct-IsPermutation, IsStrictlyIncreasing-from_distinct}
use Rattle.std.proofs.lemmas.Map.Made.{IsDistinct-from_AllPairs}
use Rattle.operation_graph.specs.Graphs.{AreDifferent}
use Rattle.operation_graph.proofs.Counts.{eqb_other, eqb_same}
use Rattle.plan_basics.proofs.Members.{contains_cases, contains_head, contains_later, contains_none}
use Rattle.graph_paths.specs.Upstream.{AreAscending}
use Rattle.graph_paths.specs.Walking.{IsSift}

-- ---- in ascending order

eqb_flips : (a b : ℕ) → eqb a b ≡ eqb b a
eqb_flips a b = elim (cases_eq a b) [ inl e ↦ eqb_same a b e ∙ sym (eqb_same b a (sym e)) | inr n ↦ eqb_other a b n ∙ sym (eqb_other b a (λ e. n (sym e))) ]

-- numbers that differ ascend once they are sorted
pub ascending_sorted : (xs ys : List ℕ) → AreDifferent xs → IsPermutation xs ys → IsNonDecreasing ys → AreAscending ys
ascending_sorted xs ys differ moved rises =
    AllPairs-from_increasing ys (IsStrictlyIncreasing-from_distinct ys rises (IsDistinct-IsPermutation eqb eqb_flips xs ys moved (IsDistinct-from_AllPairs Decides-eqb xs differ)))

-- and are the same
pub same_sorted : (xs ys : List ℕ) → IsPermutation xs ys → (n : ℕ) → Contains ys n ↔ Contains xs n
same_sorted xs ys moved n = (Contains-permutation ys xs n (IsPermutation-sym xs ys moved), Contains-permutation xs ys n moved)

-- ---- what is kept of them

remove_between : (kept : List ℕ) (x : ℕ) (rest : List ℕ) → remove (kept ++ x ∷ rest) (length kept) ≡ kept ++ rest
remove_between [] x rest = refl
remove_between (y ∷ kept) x rest = ap (λ xs. y ∷ xs) (remove_between kept x rest)

between : (kept : List ℕ) (x : ℕ) (rest : List ℕ) → length kept < length (kept ++ x ∷ rest)
between [] x rest = omega arith
between (y ∷ kept) x rest = omega (arith, between kept x rest)

module _ (passes fails : ℕ → Type 0) (all : List ℕ) where
  pub sift_begun : AreAscending all → IsSift passes fails all [] all
  sift_begun up = record { in_order = up; sound = λ n has. absurd (contains_none n has); complete = λ n has. inr has; within = λ n has. has }

  pub sift_kept : (kept : List ℕ) (x : ℕ) (rest : List ℕ) → IsSift passes fails all kept (x ∷ rest) → passes x → IsSift passes fails all (kept ++ x ∷ []) rest
  sift_kept kept x rest s k = record {
    in_order = subst AreAscending (sym (append_assoc kept (x ∷ []) rest)) s.in_order;
    sound = λ n has. elim (Contains-push_cases kept x n has) [ inl old ↦ s.sound n old | inr here ↦ subst (λ z. Contains all z × passes z) here (s.within x (contains_head x rest), k) ];
    complete = λ n has. elim (s.complete n has) [
      | inl (inl old) ↦ inl (inl (Contains-append_left kept (x ∷ []) n old))
      | inl (inr failed) ↦ inl (inr failed)
      | inr left ↦ elim (contains_cases x rest n left) [ inl same ↦ inl (inl (subst (Contains (kept ++ x ∷ [])) same (Contains-push kept x))) | inr later ↦ inr later ]
    ];
    within = λ n has. s.within n (contains_later x rest n has);
  }

  pub sift_passed : (kept : List ℕ) (x : ℕ) (rest : List ℕ) → IsSift passes fails all kept (x ∷ rest) → fails x → IsSift passes fails all kept rest
  sift_passed kept x rest s failed = record {
    in_order = subst AreAscending (remove_between kept x rest) (all_pairs_remove (λ a b. a < b) (kept ++ x ∷ rest) (length kept) (between kept x rest) s.in_order);
    sound = s.sound;
    complete = λ n has. elim (s.complete n has) [
      | inl told ↦ inl told
      | inr left ↦ elim (contains_cases x rest n left) [ inl same ↦ inl (inr (subst fails same failed)) | inr later ↦ inr later ]
    ];
    within = λ n has. s.within n (contains_later x rest n has);
  }

  module _ (kept : List ℕ) (s : IsSift passes fails all kept []) where
    pub sifted_in_order : AreAscending kept
    sifted_in_order = subst AreAscending (append-nil kept) s.in_order

    pub sifted : (n : ℕ) → Contains all n → Contains kept n ⊎ fails n
    sifted n has = elim (s.complete n has) [ inl told ↦ told | inr left ↦ absurd (contains_none n left) ]
