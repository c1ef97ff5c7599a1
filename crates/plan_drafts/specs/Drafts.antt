-- What texts of records denote: a plan to be loaded, or an addition to one or an extension of it.
use Rattle.std.specs.Prelude.{◌≡◌, ◌⊎◌, true}
use Rattle.std.specs.FinMap.{len, contains_key}
use Rattle.plan_basics.specs.declared.keys.OpKey.{OpKey}
use Rattle.plan_basics.specs.Keys.{IsOperationKey}
use Rattle.plan_model.specs.Contents.{Contents, AddedParts, IsPairOf}
use Rattle.plan_model.specs.Valid.{IsValid, AreOccurrences, AreUntouched}

-- contents of a valid plan of which nothing is reported yet
pub record IsDraft (P : Contents) : Type 0 where
  pub valid : IsValid P
  pub untouched : AreUntouched P.operations

-- the operation is of an occurrence that is added
abbrev pub IsOwn : AddedParts → OpKey → Type 0
IsOwn s o = contains_key s.occurrences o.occurrence ≡ true

-- a pair may name it: where it is of an occurrence that is added, it is added with it
abbrev pub IsEnd : AddedParts → OpKey → Type 0
IsEnd s o = IsOperationKey o × (IsOwn s o → contains_key s.operations o ≡ true)

-- occurrences with their operations, of which nothing is reported, and pairs that have at least one end in these
pub record IsExtension (s : AddedParts) : Type 0 where
  pub occurrences : AreOccurrences s.occurrences s.operations
  pub untouched : AreUntouched s.operations
  pub pairs : (p o : OpKey) → IsPairOf s.pairs p o → IsEnd s p × IsEnd s o × (IsOwn s p ⊎ IsOwn s o)

-- an extension of one occurrence
pub record IsAddition (s : AddedParts) : Type 0 where
  pub one : len s.occurrences ≡ 1
  pub extension : IsExtension s
