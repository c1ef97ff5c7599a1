-- Requests of a forecast that are made once more, up to the minutes at which operations begin.
use Rattle.std.specs.Prelude.{◌≡◌, ℕ, ◌<◌, ◌≤◌, pos, int_lt, true, All, List, length, take, Option, Some, slice_get}
use Rattle.std.specs.FinMap.{entries}
use Rattle.std.specs.Option.{option_or}
use Rattle.plan_basics.specs.declared.keys.OpKey.{OpKey}
use Rattle.plan_model.specs.Contents.{Contents, Operation}
use Rattle.plan_model.specs.Plan.{Plan}
use Rattle.plan_reasons.specs.declared.reasons.Reason.{Reason}
use Rattle.plan_records.specs.declared.Request.{Request}
use Rattle.plan_outlooks.specs.Forecasts.{minute_or}
use Rattle.plan_outlooks.specs.Lacks.{IsLack, IsPlanAt, LeadTo}
use Rattle.plan_outlooks.specs.declared.lacks.Turn.{Turn}

-- the first n of these requests come before this minute
abbrev pub AreAllBefore : ℕ → List Request → ℕ → Type 0
AreAllBefore m requests n = (k : ℕ) (q : Request) → k < n → slice_get requests k ≡ Some q → int_lt q.at (pos m) ≡ true

-- Q is the plan as the minute begins, and the first n of these requests lead there
pub record IsMadeUpTo (P : Plan) (requests : List Request) (m n : ℕ) (Q : Plan) : Type 0 where
  pub plan : IsPlanAt P requests m Q
  pub leads : LeadTo P (take n requests) Q
  pub before : AreAllBefore m requests n
  pub within : n ≤ length requests

-- of each place there is one turn
abbrev pub AreSingle : List Turn → Type 0
AreSingle turns = (j k : ℕ) (t u : Turn) → slice_get turns j ≡ Some t → slice_get turns k ≡ Some u → t.place ≡ u.place → t ≡ u

-- by minute
abbrev pub AreInOrder : List Turn → Type 0
AreInOrder turns = (j k : ℕ) (t u : Turn) → j ≤ k → slice_get turns j ≡ Some t → slice_get turns k ≡ Some u → t.at ≤ u.at

-- the turn of the operation at an index: its key, and when it begins by these times
pub record IsTurnOf (P : Contents) (since done : List (Option ℕ)) (from i : ℕ) (t : Turn) : Type 0 where
  pub place : t.place ≡ i
  pub key : (o : OpKey) (op : Operation) → slice_get (entries P.operations) i ≡ Some (o, op) → t.key ≡ o
  pub begins : (a b : Option ℕ) → slice_get since i ≡ Some a → slice_get done i ≡ Some b → t.at ≡ minute_or from (option_or a b)

-- the turns of the first n operations, in key order
pub record AreTurnsUpTo (P : Contents) (since done : List (Option ℕ)) (from n : ℕ) (turns : List Turn) : Type 0 where
  pub size : length turns ≡ n
  pub each : (i : ℕ) (t : Turn) → slice_get turns i ≡ Some t → IsTurnOf P since done from i t

-- the turns of all operations, by minute
pub record AreTurnsOf (P : Contents) (since done : List (Option ℕ)) (from : ℕ) (turns : List Turn) : Type 0 where
  pub in_order : AreInOrder turns
  pub single : AreSingle turns
  pub within : All (λ t. t.place < length (entries P.operations)) turns
  pub every : (i : ℕ) → i < length (entries P.operations) → (k : ℕ) × (t : Turn) × (slice_get turns k ≡ Some t) × IsTurnOf P since done from i t

-- at the place of each of these turns stands what its operation lacks first as its minute begins
abbrev pub AreLacksOf : Plan → List Request → List Turn → List (Option Reason) → Type 0
AreLacksOf P requests turns lacks = (k : ℕ) (t : Turn) → slice_get turns k ≡ Some t → (found : Option Reason) × (slice_get lacks t.place ≡ Some found) × IsLack P requests t.key t.at found
