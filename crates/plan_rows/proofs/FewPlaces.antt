-- Indices in order are no more than what they are indices of.
use Rattle.std.proofs.Common.{◌≡◌, sym, ap, arith, ℕ, ◌+◌, ◌-◌, ◌*◌, ◌<◌, ◌≤◌, List, [], ◌∷◌, length, Contains}
use Rattle.std.proofs.Math.Nat.{mul-add}
use Rattle.std.proofs.lemmas.Cmp.{ranked}
use Rattle.std.specs.List.{AllByRecursion}
use Rattle.std.specs.List.Sorted.{IsStrictlySortedBy}
use Rattle.std.specs.Ordering.{nat_cmp}
use Rattle.std.specs.declared.cmp.Ordering.TheVariants.{Less}
use Rattle.plan_basics.proofs.Members.{contains_head, contains_later}

above : (x : ℕ) (xs : List ℕ) → AllByRecursion (λ y. nat_cmp x y ≡ Less) xs → AllByRecursion (λ y. x + 1 ≤ y) xs
above x [] all = tt
above x (y ∷ xs) all = (let lt : x < y = ranked x y Less (sym all.0) in omega (arith, lt), above x xs all.1)

-- from a on, below n
from_on : (a n : ℕ) (xs : List ℕ) → a ≤ n → IsStrictlySortedBy nat_cmp xs → AllByRecursion (λ y. a ≤ y) xs → ((i : ℕ) → Contains xs i → i < n) → a + length xs ≤ n
unfolding IsStrictlySortedBy
from_on a n [] le up low below = omega (arith, le)
from_on a n (x ∷ xs) le up low below =
    let lt = below x (contains_head x xs) in
    let rest = from_on (x + 1) n xs (omega (arith, lt)) up.1 (above x xs up.0) (λ i has. below i (contains_later x xs i has)) in
    let first = low.0 in
    omega (arith, rest, first)

from_zero : (xs : List ℕ) → AllByRecursion (λ y. 0 ≤ y) xs
from_zero [] = tt
from_zero (x ∷ xs) = (omega arith, from_zero xs)

pub few_places : (n : ℕ) (xs : List ℕ) → IsStrictlySortedBy nat_cmp xs → ((i : ℕ) → Contains xs i → i < n) → length xs ≤ n
few_places n xs up below = let few = from_on 0 n xs (omega arith) up (from_zero xs) below in omega (arith, few)

-- as many times more is no less
pub more_each : (a k n : ℕ) → k ≤ n → a * k ≤ a * n
more_each a k n le =
    let all : n ≡ k + (n - k) = omega (arith, le) in
    let split = mul-add a k (n - k) in
    omega (arith, ap (λ m. a * m) all, split)
