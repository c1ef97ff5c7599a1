-- The latest of some minutes, one after another.
use Rattle.std.proofs.Common.{◌≡◌, inl, inr, sym, ◌∙◌, ap, subst, arith, ℕ, ◌+◌, ◌<◌, ◌≤◌, List, Option, Some, None, slice_get}
use Rattle.std.specs.Prelude.{MatchOption}
use Rattle.std.proofs.lemmas.Bool.{cases_lt}
use Rattle.plan_outlooks.specs.Spans.{IsLatest, IsLatestOf, IsLatestWith}

-- the latest of those before an index, and there are some where one is known
pub record IsLatestUpTo (times : List (Option ℕ)) (first end n : ℕ) (latest : Option ℕ) : Type 0 where
  pub from : first ≤ n
  pub is : MatchOption latest (n ≤ first) (λ m. IsLatestOf times first n m × (n ≤ end))

pub no_latest : (times : List (Option ℕ)) (first end : ℕ) → IsLatestUpTo times first end first None
no_latest times first end = record { from = omega arith; is = omega arith }

module _ (times : List (Option ℕ)) (first end n : ℕ) (within : n < end) (m : ℕ) (at : slice_get times n ≡ Some (Some m)) where
  -- what is so of the minutes before, and of this one
  all_more : (most : ℕ) → ((i : ℕ) → first ≤ i → i < n → (k : ℕ) × (slice_get times i ≡ Some (Some k)) × (k ≤ most)) → m ≤ most
      → (i : ℕ) → first ≤ i → i < n + 1 → (k : ℕ) × (slice_get times i ≡ Some (Some k)) × (k ≤ most)
  all_more most before this i low high = elim (cases_lt i n) [
    | inl earlier ↦ before i low earlier
    | inr later ↦ let same : n ≡ i = omega (arith, later, high) in (m, ap (slice_get times) (sym same) ∙ at, this)
  ]

  widen : (k : ℕ) → first ≤ n → (i : ℕ) × (first ≤ i) × (i < n) × (slice_get times i ≡ Some (Some k)) → (i : ℕ) × (first ≤ i) × (i < n + 1) × (slice_get times i ≡ Some (Some k))
  widen k from (i, low, high, there) = (i, low, omega (arith, high), there)

  pub latest_more : (latest : Option ℕ) → IsLatestUpTo times first end n latest → (most : ℕ) → IsLatestWith latest m most → IsLatestUpTo times first end (n + 1) (Some most)
  latest_more None h most one =
      let from = h.from in
      let none = h.is in
      record {
        from = omega (arith, from);
        is = (
          record {
            among = (n, from, omega arith, at ∙ ap (λ k. Some (Some k)) (sym one));
            all = all_more most (λ i low high. absurd (omega (arith, none, low, high))) (omega (arith, one));
          },
          omega (arith, within),
        );
      }
  latest_more (Some k) h most (old, new, which) =
      let from = h.from in
      let latest = h.is.0 in
      record {
        from = omega (arith, from);
        is = (
          record {
            among = elim which [
              | inl kept ↦ subst (λ z. (i : ℕ) × (first ≤ i) × (i < n + 1) × (slice_get times i ≡ Some (Some z))) (sym kept) (widen k from latest.among)
              | inr this ↦ (n, from, omega arith, at ∙ ap (λ z. Some (Some z)) (sym this))
            ];
            all = all_more most (λ i low high. let is = latest.all i low high in (is.0, is.1, (let le = is.2 in omega (arith, le, old)))) new;
          },
          omega (arith, within),
        );
      }

pub latest_is : (times : List (Option ℕ)) (first end n : ℕ) → end ≤ n → (latest : Option ℕ) → IsLatestUpTo times first end n latest → IsLatest times first end latest
latest_is times first end n past None h = let none = h.is in inl (omega (arith, none, past))
latest_is times first end n past (Some m) h = let le = h.is.1 in let same : n ≡ end = omega (arith, le, past) in subst (λ k. IsLatestOf times first k m) same h.is.0
