-- The limits of a plan that an extension can break: of occurrences, of operations and of pairs.
use Rattle.std.specs.Prelude.{◌≡◌, ◌↔◌, ◌⊎◌, ◌+◌, ◌<◌, ℕ, List, Contains, Option, length}
use Rattle.plan_drafts.specs.plan_model.specs.Contents.{Contents}
use Rattle.plan_import.specs.TextRecords.{AreRecordsOf}
use Rattle.plan_items.specs.Items.{Fields}
use Rattle.record_faults.specs.Groups.{IsLast, count_of, grouped, most_of}
use Rattle.record_faults.specs.Sayings.{Sayings, AreSayings}
use Rattle.record_faults.specs.declared.circles.Circle.{Circle}
use Rattle.record_faults.specs.declared.faults.Fault.TheVariants as fault
use Rattle.record_faults.specs.declared.faults.RecordFault.{RecordFault}
use Rattle.record_faults.specs.declared.groups.Group.{Group}
use Rattle.record_faults.specs.declared.groups.Group.TheVariants as group
use Rattle.extension_faults.specs.Beside.{OperationStays, Stays}
use Rattle.extension_faults.specs.Whole.{AreAll, IsReturnTold, StaysThere}

-- it is so of this many
abbrev pub IsNumberOf : {X : Type 0} → (X → Type 0) → ℕ → Type 0
IsNumberOf {X} P n = (xs : List X) × AreAll P xs × (length xs ≡ n)

-- the fault is of the last record of its group: with so many that stay there are more of it than a plan may hold
pub record IsExcess (said : Sayings) (g : Group) (staying : ℕ) (f : RecordFault) : Type 0 where
  pub last : IsLast (grouped said) (length said) g f.place
  pub told : f.fault ≡ fault.TooMany g (staying + count_of g (grouped said))
  pub beyond : most_of g < staying + count_of g (grouped said)

-- with the occurrences, operations and pairs of the plan that stay, these are all such faults, and no others
pub record AreExcesses (P : Contents) (said : Sayings) (faults : List RecordFault) : Type 0 where
  pub occurrences : ℕ
  pub operations : ℕ
  pub pairs : ℕ
  pub occurrences_stay : IsNumberOf (Stays P) occurrences
  pub operations_stay : IsNumberOf (OperationStays P) operations
  pub pairs_stay : IsNumberOf (StaysThere P) pairs
  pub exactly : (f : RecordFault) → Contains faults f ↔ (IsExcess said group.Occurrences occurrences f ⊎ IsExcess said group.Operations operations f ⊎ IsExcess said group.Dependencies pairs f)

-- what is wrong with records as a whole: the limits that they break, and the path that is told
pub record AreFaultsOfWhole (P : Contents) (records : List Fields) (circle : Option Circle) (faults : List RecordFault) : Type 0 where
  pub said : Sayings
  pub are : AreSayings records said
  pub excesses : List RecordFault
  pub are_excesses : AreExcesses P said excesses
  pub exactly : (f : RecordFault) → Contains faults f ↔ (Contains excesses f ⊎ IsReturnTold circle f)

-- with those of a text
abbrev pub AreFaultsOfWholeText : Contents → List ℕ → Option Circle → List RecordFault → Type 0
AreFaultsOfWholeText P text circle faults = (records : List Fields) × AreRecordsOf text records × AreFaultsOfWhole P records circle faults
