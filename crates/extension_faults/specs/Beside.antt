-- What is wrong with the records of an extension's text beside the plan that it is to extend. Of that plan counts what stays: an extension drops what is over.
use Rattle.std.specs.Prelude.{◌≡◌, ◌↔◌, ◌⊎◌, ℕ, ◌+◌, ◌*◌, ◌<◌, Bool, true, false, List, All, AllPairs, Contains, Some}
use Rattle.std.specs.FinMap.{contains_key, get}
use Rattle.plan_basics.specs.declared.keys.OccKey.{OccKey}
use Rattle.plan_basics.specs.declared.keys.OpKey.{OpKey}
use Rattle.plan_items.specs.declared.Item.{Item}
use Rattle.plan_items.specs.declared.Item.TheVariants as item
use Rattle.plan_items.specs.declared.OperationItem.{OperationItem}
use Rattle.plan_items.specs.Items.{Fields}
use Rattle.plan_items.specs.special_resources.specs.declared.Need.{Need}
use Rattle.plan_drafts.specs.plan_model.specs.Contents.{Contents, IsInPlan}
use Rattle.plan_drafts.specs.plan_model.specs.Status.{HasStatus, IsWaitingOrReady}
use Rattle.plan_drafts.specs.plan_model.specs.declared.Stock.{Stock}
use Rattle.plan_drafts.specs.status_rules.specs.declared.Status.{Status}
use Rattle.plan_drafts.specs.status_rules.specs.declared.Status.TheVariants as status
use Rattle.plan_import.specs.TextRecords.{AreRecordsOf}
use Rattle.plan_reasons.specs.plan_core.specs.plan_records.specs.Changes.{IsOver}
use Rattle.record_faults.specs.Sayings.{Sayings, AreSayings, SaysAt}
use Rattle.text_faults.specs.AddedFaults.{IsOwn}
use Rattle.extension_faults.specs.declared.kinds.FaultBeside.{FaultBeside}
use Rattle.extension_faults.specs.declared.kinds.Wrong.{Wrong}
use Rattle.extension_faults.specs.declared.kinds.Wrong.TheVariants as wrong

-- the occurrence is in the plan, and stays there: it is neither complete nor deleted
abbrev pub Stays : Contents → OccKey → Type 0
Stays P c = (contains_key P.occurrences c ≡ true) × ¬ IsOver P c

-- the operation is in the plan, and its occurrence stays there
abbrev pub OperationStays : Contents → OpKey → Type 0
OperationStays P o = IsInPlan P o × Stays P o.occurrence

-- it is an operation of the plan that stays, and of no occurrence that the text says
abbrev pub IsOther : Contents → Sayings → OpKey → Type 0
IsOther P said o = OperationStays P o × ¬ IsOwn said o

-- it is of an occurrence that the text says, or an operation of the plan that stays
abbrev pub IsFoundBeside : Contents → Sayings → OpKey → Type 0
IsFoundBeside P said o = IsOwn said o ⊎ OperationStays P o

-- what is wrong with an occurrence: the plan has it already
abbrev pub IsWrongOccurrence : Contents → OccKey → Wrong → Type 0
IsWrongOccurrence P c wrong.There = Stays P c
IsWrongOccurrence P c _ = ⊥

-- with an operation: its workstation isn't in the plan
abbrev pub IsWrongOperation : Contents → OperationItem → Wrong → Type 0
IsWrongOperation P o wrong.NoWorkstation = ¬ (contains_key P.workstations o.workstation ≡ true)
IsWrongOperation P o _ = ⊥

-- with a need: its special resource isn't in the plan, or there is less of it than the need is of
abbrev pub IsWrongNeed : Contents → Need → Wrong → Type 0
IsWrongNeed P n wrong.NoResource = ¬ (contains_key P.resources n.name ≡ true)
IsWrongNeed P n wrong.BeyondQuantity = (stock : Stock) × (get P.resources n.name ≡ Some stock) × (stock.quantity < n.amount)
IsWrongNeed P n _ = ⊥

-- with a dependency: an end isn't there; or its predecessor, an operation of the plan, is deleted; or its successor, one too, neither waits nor is ready
abbrev pub IsWrongDependency : Contents → Sayings → OpKey → OpKey → Wrong → Type 0
IsWrongDependency P said p s wrong.NoPredecessor = ¬ IsFoundBeside P said p
IsWrongDependency P said p s wrong.NoSuccessor = ¬ IsFoundBeside P said s
IsWrongDependency P said p s wrong.Deleted = IsOther P said p × HasStatus P p status.Deleted
IsWrongDependency P said p s wrong.UnderWay = IsOther P said s × ¬ IsWaitingOrReady P s
IsWrongDependency P said p s _ = ⊥

-- what is wrong with what a record says; what else it may say is judged without the plan
abbrev pub IsWrong : Contents → Sayings → Item → Wrong → Type 0
IsWrong P said (item.Occurrence c priority deadline) w = IsWrongOccurrence P c w
IsWrong P said (item.Operation o) w = IsWrongOperation P o w
IsWrong P said (item.Need o n) w = IsWrongNeed P n w
IsWrong P said (item.Dependency p s) w = IsWrongDependency P said p s w
IsWrong P said _ w = ⊥

-- the record at the place says something with which this is wrong
abbrev pub IsFaultBeside : Contents → Sayings → ℕ → Wrong → Type 0
IsFaultBeside P said place w = (x : Item) × SaysAt said place x × IsWrong P said x w

-- a fault of the records beside the plan
abbrev pub IsFaultOfRecords : Contents → List Fields → ℕ → Wrong → Type 0
IsFaultOfRecords P records place w = (said : Sayings) × AreSayings records said × IsFaultBeside P said place w

-- they are the faults of the text's records beside the plan, and no others
pub record AreFaultsBesideText (P : Contents) (text : List ℕ) (faults : List FaultBeside) : Type 0 where
  pub records : List Fields
  pub read : AreRecordsOf text records
  pub exactly : (f : FaultBeside) → Contains faults f ↔ IsFaultOfRecords P records f.place f.wrong

-- ---- on the way there
-- whether an operation of this status is deleted
abbrev pub is_deleted : Status → Bool
is_deleted status.Deleted = true
is_deleted _ = false

-- the faults of the places below n, and no others
abbrev pub AreFaultsBelow : Contents → Sayings → ℕ → List FaultBeside → Type 0
AreFaultsBelow P said n faults = (f : FaultBeside) → Contains faults f ↔ ((f.place < n) × IsFaultBeside P said f.place f.wrong)

-- the order in which what may be wrong with one record is looked for
abbrev pub kind_place : Wrong → ℕ
kind_place wrong.There = 0
kind_place wrong.NoWorkstation = 1
kind_place wrong.NoResource = 2
kind_place wrong.BeyondQuantity = 3
kind_place wrong.NoPredecessor = 4
kind_place wrong.NoSuccessor = 5
kind_place wrong.Deleted = 6
kind_place wrong.UnderWay = 7

-- the turn of a fault: record by record, and then in that order
abbrev pub turn_of : ℕ → Wrong → ℕ
turn_of place w = 8 * place + kind_place w

-- the faults have their turns one after another, all before the n-th
pub record AreBefore (n : ℕ) (faults : List FaultBeside) : Type 0 where
  pub in_order : AllPairs (λ (a : FaultBeside) (b : FaultBeside). turn_of a.place a.wrong < turn_of b.place b.wrong) faults
  pub within : All (λ (a : FaultBeside). turn_of a.place a.wrong < n) faults
