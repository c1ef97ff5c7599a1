-- Which plan a text denotes, which addition and which extension: that of its records.
use Rattle.std.specs.Prelude.{ℕ, List}
use Rattle.csv.specs.Reading.{strip_bom}
use Rattle.plan_records.specs.plan_model.specs.Contents.{Contents, AddedParts}
use Rattle.plan_items.specs.Items.{Fields}
use Rattle.plan_records.specs.plan_drafts.specs.Records.{Denotes, DenotesAddition, DenotesExtension}
use Rattle.plan_import.specs.Records.{AreOfTen}

-- the text reads as these records, each of ten fields; a byte order mark at its front is no part of the first
abbrev pub ReadsAs : List ℕ → List Fields → Type 0
ReadsAs text records = AreOfTen (strip_bom text) records

-- the text denotes the plan: its records do
abbrev pub TextDenotes : List ℕ → Contents → Type 0
TextDenotes text P = (records : List Fields) × ReadsAs text records × Denotes records P

-- the text denotes the addition: its records do
abbrev pub TextDenotesAddition : List ℕ → AddedParts → Type 0
TextDenotesAddition text s = (records : List Fields) × ReadsAs text records × DenotesAddition records s

-- the text denotes the extension: its records do
abbrev pub TextDenotesExtension : List ℕ → AddedParts → Type 0
TextDenotesExtension text s = (records : List Fields) × ReadsAs text records × DenotesExtension records s
