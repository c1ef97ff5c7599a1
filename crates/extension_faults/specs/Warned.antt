-- What the records of a text that adds to a plan are warned of beside that plan. A plan may take them all the same.
use Rattle.std.specs.Prelude.{◌≡◌, ◌↔◌, ℕ, ◌<◌, ◌-◌, zero, suc, List, [], ◌∷◌, ◌++◌, length, take, map, codes, decimal, Contains, Some}
use Rattle.std.specs.FinMap.{get}
use Rattle.std.specs.List.{AllZip}
use Rattle.plan_basics.specs.Intervals.{OpenInterval}
use Rattle.plan_drafts.specs.plan_model.specs.Plan.{Plan}
use Rattle.plan_import.specs.Lines.{BeginOn}
use Rattle.plan_import.specs.TextRecords.{AreRecordsOf}
use Rattle.plan_items.specs.declared.Item.TheVariants as item
use Rattle.plan_items.specs.declared.OperationItem.{OperationItem}
use Rattle.plan_items.specs.Items.{Fields}
use Rattle.record_faults.specs.Sayings.{Sayings, AreSayings, SaysAt}
use Rattle.record_faults.specs.Warnings.{Holds, StartsAreKnown}
use Rattle.record_faults.specs.declared.warnings.RecordWarning.{RecordWarning}
use Rattle.text_faults.specs.TextFaults.{line_at, AreWarningsOfText}
use Rattle.plan_drafts.specs.workstations.specs.Workstations.{Workstation}
use Rattle.extension_faults.specs.declared.judging.TheConstants.{MOST_TOLD}

-- the interval ends after the clock and the operation's not-before, and the operation may run in it, if nothing else does
abbrev pub HoldsAfter : OperationItem → ℕ → OpenInterval → Type 0
HoldsAfter o clock x = Holds o x × (clock < x.end) × (o.not_before < x.end)

-- the workstation has such an open interval
abbrev pub HoldsLater : Workstation → OperationItem → ℕ → Type 0
HoldsLater ws o clock = (from : ℕ) × (x : OpenInterval) × (get ws.intervals from ≡ Some x) × HoldsAfter o clock x

-- starts are known on the workstation, and it has none
abbrev pub NeverHolds : Workstation → OperationItem → ℕ → Type 0
NeverHolds ws o clock = StartsAreKnown ws.attribute × ¬ HoldsLater ws o clock

-- so it is of the operation's workstation, as the plan has it, from the plan's clock on
abbrev pub NeverStarts : Plan → OperationItem → Type 0
NeverStarts P o = (ws : Workstation) × (get P.contents.workstations o.workstation ≡ Some ws) × NeverHolds ws o P.clock

-- the record at the place says such an operation
abbrev pub NeverStartsAt : Plan → Sayings → ℕ → Type 0
NeverStartsAt P said place = (o : OperationItem) × SaysAt said place (item.Operation o) × NeverStarts P o

-- so it is of these records
abbrev pub NeverStartsIn : Plan → List Fields → ℕ → Type 0
NeverStartsIn P records place = (said : Sayings) × AreSayings records said × NeverStartsAt P said place

-- they are the places below n that say such operations, and no others
abbrev pub AreNeverBelow : Plan → Sayings → ℕ → List ℕ → Type 0
AreNeverBelow P said n places = (place : ℕ) → Contains places place ↔ ((place < n) × NeverStartsAt P said place)

-- they are the places of the text's records that say such operations, and no others
pub record AreNeverStarting (P : Plan) (text : List ℕ) (places : List ℕ) : Type 0 where
  pub records : List Fields
  pub read : AreRecordsOf text records
  pub exactly : (place : ℕ) → Contains places place ↔ NeverStartsIn P records place

-- ---- what is told of them
-- a line that warns of the record at the place
abbrev pub WarnsFrom : List ℕ → ℕ → List ℕ → Type 0
WarnsFrom starts place line = (wrong : List ℕ) × (line ≡ codes "warning: line " ++ decimal (line_at starts place) ++ codes ": " ++ wrong)

-- how many more there are, if there are
abbrev pub more_warnings : ℕ → List (List ℕ)
more_warnings zero = []
more_warnings (suc n) = (codes "warning: " ++ decimal (suc n) ++ codes " more") ∷ []

-- of the records at these places of a text each of the first is warned of in its line, and then how many more there are
pub record AreWarned (text : List ℕ) (places : List ℕ) (lines : List (List ℕ)) : Type 0 where
  pub starts : List ℕ
  pub begin : BeginOn text starts
  pub first : List (List ℕ)
  pub each : AllZip (WarnsFrom starts) (take MOST_TOLD places) first
  pub all : lines ≡ first ++ more_warnings (length places - MOST_TOLD)

-- what a text is warned of by itself, and then beside the plan
abbrev pub AreWarningsBeside : Plan → List ℕ → List (List ℕ) → Type 0
AreWarningsBeside P text lines =
    (alone : List RecordWarning) × AreWarningsOfText text alone × (beside : List ℕ) × AreNeverStarting P text beside
    × ((first : List (List ℕ)) × AreWarned text (map (λ (w : RecordWarning). w.place) alone) first
    × ((second : List (List ℕ)) × AreWarned text beside second × (lines ≡ first ++ second)))
