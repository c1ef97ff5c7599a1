-- The faults of a text: those of its records.
use Rattle.std.specs.Prelude.{◌↔◌, ℕ, ◌-◌, List, length, All, Contains, slice_get, unwrap_or}
use Rattle.plan_basics.specs.declared.keys.OpKey.{OpKey}
use Rattle.plan_drafts.specs.plan_model.specs.Contents.{Contents}
use Rattle.plan_items.specs.Items.{Fields}
use Rattle.plan_import.specs.Texts.{TextDenotes}
use Rattle.record_faults.specs.Faults.{IsFault, IsFaultOfRecord, IsCircleOf}
use Rattle.record_faults.specs.declared.faults.RecordFault.{RecordFault}
use Rattle.record_faults.specs.declared.warnings.RecordWarning.{RecordWarning}
use Rattle.record_faults.specs.Warnings.{IsWarning}
use Rattle.plan_import.specs.TextRecords.{AreRecordsOf}

-- the text denotes some plan
abbrev pub TextDenotesSome : List ℕ → Type 0
TextDenotesSome text = (P : Contents) × TextDenotes text P

-- each is a fault of the text's records, and each fault that a record has by itself is among them
pub record AreFaultsOfText (text : List ℕ) (faults : List RecordFault) : Type 0 where
  pub records : List Fields
  pub read : AreRecordsOf text records
  pub sound : All (λ (f : RecordFault). IsFault records f.place f.fault) faults
  pub complete : (f : RecordFault) → IsFaultOfRecord records f.place f.fault → Contains faults f

-- a dependency of the text closes the path over these operations
abbrev pub ReturnsIn : List ℕ → ℕ → OpKey → List OpKey → Type 0
ReturnsIn text place first way = (records : List Fields) × AreRecordsOf text records × IsCircleOf records place first way

-- the line of a record; of the last one, where there is no record at the place, and 1 where there is none at all
abbrev pub line_at : List ℕ → ℕ → ℕ
line_at lines place = unwrap_or (slice_get lines place) (unwrap_or (slice_get lines (length lines - 1)) 1)

-- they are what the text's records are warned of, and nothing else
pub record AreWarningsOfText (text : List ℕ) (warnings : List RecordWarning) : Type 0 where
  pub records : List Fields
  pub read : AreRecordsOf text records
  pub exactly : (w : RecordWarning) → Contains warnings w ↔ IsWarning records w.place w.warning
