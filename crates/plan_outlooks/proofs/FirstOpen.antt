-- The first minute at which a workstation is open.
use Rattle.std.proofs.Common.{◌≡◌, ◌↔◌, inl, inr, refl, arith, ℕ, ◌<◌, ◌≤◌, true, false, Option, Some, None, is_some}
use Rattle.std.proofs.lemmas.Bool.{cases_lt}
use Rattle.std.proofs.lemmas.Option.{none-some}
use Rattle.plan_reasons.specs.Reasons.{BeginsAt, IsClosedAt, IsNextOpening}
use Rattle.workstations.specs.Workstations.{HasCapacity, IsWorkstation, Workstation, capacity_of}
use Rattle.workstations.specs.declared.Capacity.{Capacity}
use Rattle.plan_outlooks.specs.Standstills.{IsOpenFirst}

-- it is open then
pub open_then : (ws : Workstation) (n : ℕ) (c : Capacity) → HasCapacity ws n c → IsOpenFirst ws n n
open_then ws n c is = inl (omega arith, (λ closed. closed c is), λ k from before. absurd (omega (arith, from, before)))

-- where something is offered it is open, where nothing is it isn't
pub open_by : (ws : Workstation) (n : ℕ) (found : Option Capacity) → ((c : Capacity) → (found ≡ Some c) ↔ HasCapacity ws n c) → is_some found ≡ true → IsOpenFirst ws n n
open_by ws n (Some c) told e = open_then ws n c ((told c).0 refl)
open_by ws n None told e = cc

pub shut_by : (ws : Workstation) (n : ℕ) (found : Option Capacity) → ((c : Capacity) → (found ≡ Some c) ↔ HasCapacity ws n c) → is_some found ≡ false → IsClosedAt ws n
shut_by ws n None told e = λ c has. none-some c ((told c).1 has)
shut_by ws n (Some c) told e = cc

module _ (ws : Workstation) (legal : IsWorkstation ws) (n : ℕ) (shut : IsClosedAt ws n) where
  -- what is open later has begun later
  begun_later : (k : ℕ) (c : Capacity) → n ≤ k → HasCapacity ws k c → (b : ℕ) × (n < b) × (b ≤ k) × BeginsAt ws b
  begun_later k c from (b, x, there, its_own, is) = elim (cases_lt n b) [
    | inl after ↦ (b, after, (let at = (legal.intervals b x there).0 in let low = its_own.0 in omega (arith, at, low)), (x, there))
    | inr before ↦
        let at = (legal.intervals b x there).0 in
        let up_to = its_own.1 in
        let low : x.from ≤ n = omega (arith, at, before) in
        let high : n < x.end = omega (arith, from, up_to) in
        absurd (shut (capacity_of x) (b, x, there, (low, high), refl))
  ]

  pub open_next : (m : ℕ) → IsNextOpening ws n (Some m) → IsOpenFirst ws n m
  open_next m (after, begins, least) =
      let x = begins.0 in
      let its = legal.intervals m x begins.1 in
      let low : x.from ≤ m = (let at = its.0 in omega (arith, at)) in
      let high : m < x.end = (let at = its.0 in let some = its.1.not_empty in omega (arith, at, some)) in
      inl (
        omega (arith, after),
        (λ closed. closed (capacity_of x) (m, x, begins.1, (low, high), refl)),
        λ k from before c is.
            let b = begun_later k c from is in
            let le = least b.0 b.3 b.1 in
            let up = b.2 in
            omega (arith, le, up, before),
      )

  pub open_never : IsNextOpening ws n None → IsOpenFirst ws n n
  open_never none = inr (refl, λ k from c is. let b = begun_later k c from is in let le = none b.0 b.3 in let up = b.1 in omega (arith, le, up))
