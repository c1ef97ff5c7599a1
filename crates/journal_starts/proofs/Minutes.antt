-- Minutes up to a clock.
use Rattle.std.proofs.Common.{◌≡◌, ◌↔◌, ℕ, ◌<◌, ℤ, pos, ◌<ℤ◌, arith, subst, Option, Some, None, IsSome, IfSome, true≢false, sym}
use Rattle.std.proofs.lemmas.Int.{ints}
use Rattle.plan_basics.specs.Minutes.{IsMoment}
use Rattle.journal_starts.specs.Mentions.{IsMinuteUpTo}

-- minutes from 1972 on are in order as moments are
in_order : (a b : ℕ) → pos a <ℤ pos b → a < b
in_order a b before = omega (arith, ints)

in_order_back : (a b : ℕ) → a < b → pos a <ℤ pos b
in_order_back a b before = omega (arith, ints)

-- a moment after the clock
pub beyond : (at : ℤ) (clock : ℕ) → pos clock <ℤ at → IsMinuteUpTo clock at None
beyond at clock after = λ m is less.
    let later : clock < m = in_order clock m (subst (λ (z : ℤ). pos clock <ℤ z) is after) in
    omega (arith, later, less)

-- one that isn't
pub up_to : (at : ℤ) (clock : ℕ) → IsMoment clock → ¬ (pos clock <ℤ at) → (found : Option ℕ) → (IsSome found ↔ ((m : ℕ) × (at ≡ pos m) × IsMoment m)) → IfSome found (λ m. at ≡ pos m) → IsMinuteUpTo clock at found
up_to at clock legal within None some value = λ m is less. true≢false (sym (some.1 (m, is, omega (arith, less, legal))))
up_to at clock legal within (Some m) some value =
    let is : at ≡ pos m = value in
    let here : ¬ (clock < m) = λ before. within (subst (λ (z : ℤ). pos clock <ℤ z) (sym is) (in_order_back clock m before)) in
    (is, omega (arith, here))
