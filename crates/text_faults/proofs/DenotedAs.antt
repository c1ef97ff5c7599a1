-- What a text denotes, its records do, whatever it is to be.
use Rattle.std.proofs.Common.{◌↔◌, ℕ, List}
use Rattle.plan_items.specs.Items.{Fields}
use Rattle.plan_drafts.specs.plan_model.specs.Contents.{AddedParts}
use Rattle.plan_import.specs.Denoting.{DenotesAdditionsOf, DenotesExtensionsOf}
use Rattle.text_faults.specs.declared.additions.faults.AddedText.{AddedText}
use Rattle.text_faults.specs.declared.additions.faults.AddedText.TheVariants as text
use Rattle.text_faults.specs.AddedFaults.{DenotesAs}
use Rattle.text_faults.specs.AddedTexts.{TextDenotesAs}

pub denoted_as : (added : AddedText) (bytes : List ℕ) (records : List Fields) → DenotesAdditionsOf bytes records → DenotesExtensionsOf bytes records → (s : AddedParts) → TextDenotesAs added bytes s ↔ DenotesAs added records s
denoted_as text.Addition bytes records additions extensions s = additions s
denoted_as text.Extension bytes records additions extensions s = extensions s
