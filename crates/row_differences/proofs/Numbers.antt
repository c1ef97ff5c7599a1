-- Numbers that are taken in ascending order.
use Rattle.std.proofs.Common.{◌≡◌, ◌↔◌, inl, inr, subst, arith, ℕ, ◌+◌, ◌<◌, List, [], ◌∷◌, ◌++◌, Contains}
use Rattle.std.specs.List.{AllByRecursion}
use Rattle.std.specs.List.Sorted.{IsStrictlySortedBy}
use Rattle.std.specs.Ordering.{nat_cmp}
use Rattle.std.specs.declared.cmp.Ordering.TheVariants.{Less}
use Rattle.std.proofs.lemmas.Bool.{cases_lt}
use Rattle.std.proofs.lemmas.Bool.Decides.{nat_tests}
use Rattle.std.proofs.lemmas.List.Elements.{Contains-append_left, Contains-push, Contains-push_cases}
use Rattle.plan_basics.proofs.Members.{contains_head, contains_later, contains_none}

less_by_cmp : (m n : ℕ) → m < n → nat_cmp m n ≡ Less
less_by_cmp m n lt = grind (arith, nat_tests)

below_last : (x : ℕ) (xs : List ℕ) (n : ℕ) → AllByRecursion (λ m. nat_cmp x m ≡ Less) xs → nat_cmp x n ≡ Less → AllByRecursion (λ m. nat_cmp x m ≡ Less) (xs ++ n ∷ [])
below_last x [] n all less = (less, tt)
below_last x (y ∷ ys) n all less = (all.0, below_last x ys n all.1 less)

ascend_on : (xs : List ℕ) (n : ℕ) → IsStrictlySortedBy nat_cmp xs → ((m : ℕ) → Contains xs m → m < n) → IsStrictlySortedBy nat_cmp (xs ++ n ∷ [])
unfolding IsStrictlySortedBy
ascend_on [] n up below = (tt, tt)
ascend_on (x ∷ xs) n up below = (below_last x xs n up.0 (less_by_cmp x n (below x (contains_head x xs))), ascend_on xs n up.1 (λ m has. below m (contains_later x xs m has)))

none_ascend : IsStrictlySortedBy nat_cmp []
unfolding IsStrictlySortedBy
none_ascend = tt

-- xs are exactly the numbers below n that have P, in order
pub record AreSoFar (P : ℕ → Type 0) (n : ℕ) (xs : List ℕ) : Type 0 where
  pub ascend : IsStrictlySortedBy nat_cmp xs
  pub taken : (m : ℕ) → Contains xs m → P m × (m < n)
  pub all : (m : ℕ) → P m → m < n → Contains xs m

module _ (P : ℕ → Type 0) where
  pub so_far_none : AreSoFar P 0 []
  so_far_none = record { ascend = none_ascend; taken = λ m has. absurd (contains_none m has); all = λ m p lt. absurd (omega (arith, lt)) }

  pub so_far_taken : (n : ℕ) (xs : List ℕ) → AreSoFar P n xs → P n → AreSoFar P (n + 1) (xs ++ n ∷ [])
  so_far_taken n xs h p = record {
    ascend = ascend_on xs n h.ascend (λ m has. (h.taken m has).1);
    taken = λ m has. elim (Contains-push_cases xs n m has) [
      | inl earlier ↦ let t = h.taken m earlier in (t.0, omega (arith, t.1))
      | inr e ↦ (subst P e p, omega (arith, e))
    ];
    all = λ m q lt. elim (cases_lt m n) [
      | inl less ↦ Contains-append_left xs (n ∷ []) m (h.all m q less)
      | inr ge ↦ let e : n ≡ m = omega (arith, lt, ge) in subst (Contains (xs ++ n ∷ [])) e (Contains-push xs n)
    ];
  }

  pub so_far_passed : (n : ℕ) (xs : List ℕ) → AreSoFar P n xs → ¬ P n → AreSoFar P (n + 1) xs
  so_far_passed n xs h not = record {
    ascend = h.ascend;
    taken = λ m has. let t = h.taken m has in (t.0, omega (arith, t.1));
    all = λ m q lt. elim (cases_lt m n) [
      | inl less ↦ h.all m q less
      | inr ge ↦ let e : m ≡ n = omega (arith, lt, ge) in absurd (not (subst P e q))
    ];
  }

  pub so_far_done : (n : ℕ) (xs : List ℕ) → AreSoFar P n xs → ((m : ℕ) → P m → m < n) → (m : ℕ) → Contains xs m ↔ P m
  so_far_done n xs h within m = (λ has. (h.taken m has).0, λ p. h.all m p (within m p))
