-- Two plans of which one has other marks, and what is given out and held on the way from the one to the other.
use Rattle.std.specs.Prelude.{◌≡◌, ◌↔◌, ℕ, ◌<◌, ◌≤◌, Bool, cond, List, ◌++◌, drop, sum_by, take, Some, length, slice_get}
use Rattle.std.specs.FinMap.{entries, get}
use Rattle.plan_basics.specs.Keys.{Name}
use Rattle.plan_basics.specs.declared.keys.OpKey.{OpKey}
use Rattle.special_resources.specs.Holdings.{Held}
use Rattle.special_resources.specs.declared.Claim.{Claim}
use Rattle.plan_model.specs.Contents.{Contents, Operation}
use Rattle.plan_model.specs.Holdings.{Holds, is_serving}
use Rattle.start_choice.specs.plan_drafts.specs.Places.{AreByPlace}
use Rattle.plan_model.specs.Moves.{IsRemarked, reporting}
use Rattle.workstations.specs.declared.Capacity.{Capacity}

-- the operation is in P too, at the same place, perhaps with another mark or other flags
pub record WasAt (P : Contents) (i : ℕ) (o : OpKey) (after : Operation) : Type 0 where
  pub before : Operation
  pub row : slice_get (entries P.operations) i ≡ Some (o, before)
  pub remarked : IsRemarked before after

-- Q has the operations of P, perhaps with other marks and flags, on workstations that report as those of P do
pub record IsRemarkedPlan (P Q : Contents) : Type 0 where
  pub workstations : reporting (entries Q.workstations) ≡ reporting (entries P.workstations)
  pub size : length (entries Q.operations) ≡ length (entries P.operations)
  pub rows : (i : ℕ) (o : OpKey) (op : Operation) → slice_get (entries Q.operations) i ≡ Some (o, op) → WasAt P i o op

-- the operations of Q at the places below m, and those of P from there on
abbrev pub operations_between : Contents → Contents → ℕ → List (OpKey × Operation)
operations_between P Q m = take m (entries Q.operations) ++ drop m (entries P.operations)

-- the sum of a number over those that hold a server of this workstation
abbrev pub sum_between : Contents → Contents → ℕ → Name → (Operation → ℕ) → ℕ
sum_between P Q m w number = sum_by (λ row. cond (is_serving P w row.1) (number row.1) 0) (operations_between P Q m)

-- what the workstation has given out to them
abbrev pub given_between : Contents → Contents → ℕ → Name → Capacity
given_between P Q m w = record { servers = sum_between P Q m w (λ op. 1); r1 = sum_between P Q m w (λ op. op.r1); r2 = sum_between P Q m w (λ op. op.r2) }

-- what each workstation has given out to them
abbrev pub AreGivenBetween : Contents → Contents → ℕ → List Capacity → Type 0
AreGivenBetween P Q m given = AreByPlace (entries P.workstations) given (λ w capacity. capacity ≡ given_between P Q m w)

-- o holds what it holds in P, and nothing else
abbrev pub HoldsJust : Contents → OpKey → Held → Type 0
HoldsJust P o held = (r : Name) (claim : Claim) → (get held (r, o) ≡ Some claim) ↔ ((keep : Bool) × Holds P o r (record { claim = claim; keep = keep }))

-- the operations at the places below m hold what they hold in Q, and all else what they hold in P
pub record AreHeldBetween (P Q : Contents) (m : ℕ) (held : Held) : Type 0 where
  pub changed : (i : ℕ) (o : OpKey) (op : Operation) → slice_get (entries Q.operations) i ≡ Some (o, op) → i < m → HoldsJust Q o held
  pub others : (o : OpKey) → ((i : ℕ) (op : Operation) → slice_get (entries Q.operations) i ≡ Some (o, op) → m ≤ i) → HoldsJust P o held
