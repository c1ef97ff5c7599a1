-- A plan's order: its operations can be numbered so that each successor has the greater number.
use Rattle.std.specs.Prelude.{◌⊎◌, ℕ}
use Rattle.operation_graph.specs.Paths.{IsRankBy, LeadsBy}
use Rattle.plan_basics.specs.declared.keys.OpKey.{OpKey}
use Rattle.plan_records.specs.plan_model.specs.Contents.{Contents, Pairs, Precedes, IsPairOf}
use Rattle.plan_records.specs.plan_model.specs.Valid.{IsAcyclic, IsValid}

-- a valid plan has a rank
abbrev pub ValidHasRank : Type 0
ValidHasRank = (P : Contents) → IsValid P → (rank : OpKey → ℕ) × IsRankBy (Precedes P) rank

-- whether these pairs lead from one operation to another is so or isn't
abbrev pub PathsAreTold : Type 0
PathsAreTold = (pairs : Pairs) (a b : OpKey) → LeadsBy (IsPairOf pairs) a b ⊎ ¬ LeadsBy (IsPairOf pairs) a b

-- whether some path of these pairs returns is so or isn't
abbrev pub CyclesAreTold : Type 0
CyclesAreTold = (pairs : Pairs) → IsAcyclic pairs ⊎ ¬ IsAcyclic pairs
