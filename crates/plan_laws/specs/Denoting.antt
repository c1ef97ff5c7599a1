-- What records denote goes by the records alone, in whatever order they are.
use Rattle.std.specs.Prelude.{◌↔◌, List}
use Rattle.std.specs.List.Sorted.{IsPermutation}
use Rattle.plan_records.specs.plan_items.specs.Items.{Fields}
use Rattle.plan_records.specs.plan_model.specs.Contents.{Contents, AddedParts}
use Rattle.plan_records.specs.plan_drafts.specs.Records.{Denotes, DenotesAddition, DenotesExtension}

-- the same records in another order denote the same plan
abbrev pub OrderDoesNotMatter : Type 0
OrderDoesNotMatter = (records others : List Fields) (P : Contents) → IsPermutation records others → Denotes records P ↔ Denotes others P

-- and the same addition
abbrev pub OrderDoesNotMatterToAdditions : Type 0
OrderDoesNotMatterToAdditions = (records others : List Fields) (s : AddedParts) → IsPermutation records others → DenotesAddition records s ↔ DenotesAddition others s

-- and the same extension
abbrev pub OrderDoesNotMatterToExtensions : Type 0
OrderDoesNotMatterToExtensions = (records others : List Fields) (s : AddedParts) → IsPermutation records others → DenotesExtension records s ↔ DenotesExtension others s
