-- What a text denotes, its records do, whatever their lengths: a record of another length than ten says nothing.
use Rattle.std.specs.Prelude.{◌↔◌, ℕ, List}
use Rattle.plan_records.specs.plan_model.specs.Contents.{Contents, AddedParts}
use Rattle.plan_items.specs.Items.{Fields}
use Rattle.plan_records.specs.plan_drafts.specs.Records.{Denotes, DenotesAddition, DenotesExtension}
use Rattle.plan_import.specs.Texts.{TextDenotes, TextDenotesAddition, TextDenotesExtension}

-- the text denotes the plans that the records denote, and no others
abbrev pub DenotesPlansOf : List ℕ → List Fields → Type 0
DenotesPlansOf text records = (P : Contents) → (TextDenotes text P ↔ Denotes records P)

-- the text denotes the additions that the records denote, and no others
abbrev pub DenotesAdditionsOf : List ℕ → List Fields → Type 0
DenotesAdditionsOf text records = (added : AddedParts) → (TextDenotesAddition text added ↔ DenotesAddition records added)

-- the text denotes the extensions that the records denote, and no others
abbrev pub DenotesExtensionsOf : List ℕ → List Fields → Type 0
DenotesExtensionsOf text records = (added : AddedParts) → (TextDenotesExtension text added ↔ DenotesExtension records added)
