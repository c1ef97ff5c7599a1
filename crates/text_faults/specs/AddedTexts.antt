-- The faults of a text that adds to a plan: those of its records.
use Rattle.std.specs.Prelude.{◌↔◌, ℕ, List, Contains}
use Rattle.plan_items.specs.Items.{Fields}
use Rattle.plan_drafts.specs.plan_model.specs.Contents.{AddedParts}
use Rattle.plan_import.specs.Texts.{TextDenotesAddition, TextDenotesExtension}
use Rattle.plan_import.specs.TextRecords.{AreRecordsOf}
use Rattle.text_faults.specs.AddedFaults.{IsFaultOfAdded}
use Rattle.text_faults.specs.declared.additions.faults.AddedText.{AddedText}
use Rattle.text_faults.specs.declared.additions.faults.AddedText.TheVariants as text
use Rattle.text_faults.specs.declared.additions.faults.PlacedFault.{PlacedFault}

-- the text denotes this: as an addition, or as an extension
abbrev pub TextDenotesAs : AddedText → List ℕ → AddedParts → Type 0
TextDenotesAs text.Addition bytes s = TextDenotesAddition bytes s
TextDenotesAs text.Extension bytes s = TextDenotesExtension bytes s

-- the text denotes something so
abbrev pub TextDenotesSomeAdded : AddedText → List ℕ → Type 0
TextDenotesSomeAdded added bytes = (s : AddedParts) × TextDenotesAs added bytes s

-- they are the faults of the text's records, and no others
pub record AreFaultsOfAddedText (added : AddedText) (bytes : List ℕ) (faults : List PlacedFault) : Type 0 where
  pub records : List Fields
  pub read : AreRecordsOf bytes records
  pub exactly : (f : PlacedFault) → Contains faults f ↔ IsFaultOfAdded added records f.place f.fault
