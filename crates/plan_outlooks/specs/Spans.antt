-- Where the operations of an occurrence stand, and the latest of some minutes.
use Rattle.std.specs.Prelude.{◌≡◌, ◌⊎◌, ◌↔◌, ℕ, ◌≤◌, ◌<◌, List, length, Option, Some, None, MatchOption, slice_get}
use Rattle.std.specs.FinMap.{entries}
use Rattle.std.specs.declared.cmp.Ordering.TheVariants.{Greater, Less}
use Rattle.plan_basics.specs.Keys.{occurrence_cmp}
use Rattle.plan_basics.specs.declared.keys.OccKey.{OccKey}
use Rattle.plan_basics.specs.declared.keys.OpKey.{OpKey}
use Rattle.plan_model.specs.Contents.{Contents, Operation}
use Rattle.plan_model.specs.Status.{HasStatus}
use Rattle.status_rules.specs.declared.Status.{Status}
use Rattle.plan_outlooks.specs.Standstills.{IsLater}

-- the first n of these rows are those of occurrences before c
abbrev pub AreBefore : List (OpKey × Operation) → OccKey → ℕ → Type 0
AreBefore rows c n = (i : ℕ) (o : OpKey) (op : Operation) → slice_get rows i ≡ Some (o, op) → (i < n) ↔ (occurrence_cmp o.occurrence c ≡ Less)

-- the first n are those of c and of occurrences before it
abbrev pub AreThrough : List (OpKey × Operation) → OccKey → ℕ → Type 0
AreThrough rows c n = (i : ℕ) (o : OpKey) (op : Operation) → slice_get rows i ≡ Some (o, op) → (i < n) ↔ ¬ (occurrence_cmp o.occurrence c ≡ Greater)

-- the rows of c's operations are those from the index `first` up to `end`
pub record AreOperationsOf (P : Contents) (c : OccKey) (first end : ℕ) : Type 0 where
  pub within : end ≤ length (entries P.operations)
  pub are : (i : ℕ) (o : OpKey) (op : Operation) → slice_get (entries P.operations) i ≡ Some (o, op) → (o.occurrence ≡ c) ↔ ((first ≤ i) × (i < end))

-- each operation whose row is at one of these indices has this status
abbrev pub HaveStatus : Contents → ℕ → ℕ → Status → Type 0
HaveStatus P first end s = (i : ℕ) (o : OpKey) (op : Operation) → slice_get (entries P.operations) i ≡ Some (o, op) → first ≤ i → i < end → HasStatus P o s

-- m is the latest of the minutes at these indices, all of which are known
pub record IsLatestOf (times : List (Option ℕ)) (first end m : ℕ) : Type 0 where
  pub among : (i : ℕ) × (first ≤ i) × (i < end) × (slice_get times i ≡ Some (Some m))
  pub all : (i : ℕ) → first ≤ i → i < end → (n : ℕ) × (slice_get times i ≡ Some (Some n)) × (n ≤ m)

-- the latest of the minutes at these indices; none where there is none, or one isn't known
abbrev pub IsLatest : List (Option ℕ) → ℕ → ℕ → Option ℕ → Type 0
IsLatest times first end found =
    MatchOption found ((end ≤ first) ⊎ ((i : ℕ) × (first ≤ i) × (i < end) × (slice_get times i ≡ Some None))) (IsLatestOf times first end)

-- the later of a minute and another one, if there is one
abbrev pub IsLatestWith : Option ℕ → ℕ → ℕ → Type 0
IsLatestWith latest m n = MatchOption latest (n ≡ m) (λ other. IsLater other m n)
