-- What one more operation changes in the numbers of its occurrence.
use Rattle.std.specs.Prelude.{◌≡◌, ◌⊎◌, ℕ, ◌+◌, ◌≤◌}
use Rattle.status_rules.specs.declared.Counts.{Counts}
use Rattle.status_rules.specs.declared.Status.{Status}
use Rattle.status_rules.specs.declared.Status.TheVariants as status

-- the number rises by one where this is so, and stays where it isn't
abbrev pub RisesIf : Type 0 → ℕ → ℕ → Type 0
RisesIf Q old new = (Q × (new ≡ old + 1)) ⊎ (¬ Q × (new ≡ old))

-- an operation of this status is counted
pub record CountsOneMore (s : Status) (old new : Counts) : Type 0 where
  pub all : new.all ≡ old.all + 1
  pub deleted : RisesIf (s ≡ status.Deleted) old.deleted new.deleted
  pub error : RisesIf (s ≡ status.Error) old.error new.error
  pub undecided : RisesIf (s ≡ status.Undecided) old.undecided new.undecided
  pub complete : RisesIf (s ≡ status.Complete) old.complete new.complete
  pub started : RisesIf ((s ≡ status.Started) ⊎ (s ≡ status.Interrupted)) old.started new.started

-- no number is higher than this
pub record AreAtMost (most : ℕ) (n : Counts) : Type 0 where
  pub all : n.all ≤ most
  pub deleted : n.deleted ≤ most
  pub error : n.error ≤ most
  pub undecided : n.undecided ≤ most
  pub complete : n.complete ≤ most
  pub started : n.started ≤ most
