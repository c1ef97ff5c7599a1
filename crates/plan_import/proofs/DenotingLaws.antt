-- A text denotes what its records do: it has no others, and records that denote something have ten fields each.
use Rattle.std.proofs.Common.{◌≡◌, ◌↔◌, ℕ, List, [], ◌∷◌, refl}
use Rattle.std.specs.List.{AllZip, AllByRecursion}
use Rattle.csv.specs.Reading.{default_config, strip_bom}
use Rattle.csv.specs.declared.parser.State.TheVariants as st
use Rattle.plan_items.specs.Items.{Fields, IsRecordOf, Says}
use Rattle.plan_items.specs.declared.Item.{Item}
use Rattle.plan_items.specs.declared.Item.TheVariants as item
use Rattle.plan_records.specs.plan_drafts.specs.Records.{Denotes, DenotesAddition, DenotesExtension}
use Rattle.plan_import.specs.Records.{IsTen}
use Rattle.plan_import.specs.Texts.{ReadsAs}
use Rattle.plan_import.proofs.Rows.{one_reading}
use Rattle.plan_import.specs.TextRecords.{AreRecordsOf}
use Rattle.plan_import.specs.Denoting.{DenotesPlansOf, DenotesAdditionsOf, DenotesExtensionsOf}

-- what an item's record is has ten fields
ten_said : (x : Item) (fields : Fields) → IsRecordOf x fields → IsTen fields
ten_said (item.Workstation name attribute) fields h = rw h refl
ten_said (item.Interval workstation interval) fields h = rw (h.4) refl
ten_said (item.Resource name available quantity) fields h = rw (h.2) refl
ten_said (item.Occurrence key priority deadline) fields h = rw (h.4) refl
ten_said (item.Operation o) fields h = rw (h.6) refl
ten_said (item.Dependency p s) fields h = rw (h.4) refl
ten_said (item.Need o need) fields h = rw (h.4) refl

-- so have records that each say an item
all_ten : (records : List Fields) (items : List Item) → AllZip Says records items → AllByRecursion IsTen records
all_ten [] items h = tt
all_ten (r ∷ rs) [] h = absurd h
all_ten (r ∷ rs) (x ∷ xs) h = (ten_said x r h.0.1, all_ten rs xs h.1)

-- a text denotes what its records do, where only records of ten fields denote something
denotes_of : {X : Type 0} (D : List Fields → X → Type 0) (ten : (rs : List Fields) (x : X) → D rs x → AllByRecursion IsTen rs)
    (text : List ℕ) (records : List Fields) → AreRecordsOf text records
    → (x : X) → (((rs : List Fields) × ReadsAs text rs × D rs x) ↔ D records x)
denotes_of D ten text records all x = (
  (λ (other, reads, denotes).
      let same : other ≡ records = one_reading default_config st.StartRecord (strip_bom text) other records reads.0 all in
      rw (← same) denotes),
  (λ denotes. (records, (all, ten records x denotes), denotes)),
)

pub denotes_plans : (text : List ℕ) (records : List Fields) → AreRecordsOf text records → DenotesPlansOf text records
denotes_plans text records all = denotes_of Denotes (λ rs P d. all_ten rs d.described.items d.described.said) text records all

pub denotes_additions : (text : List ℕ) (records : List Fields) → AreRecordsOf text records → DenotesAdditionsOf text records
denotes_additions text records all = denotes_of DenotesAddition (λ rs s d. all_ten rs d.described.items d.described.said) text records all

pub denotes_extensions : (text : List ℕ) (records : List Fields) → AreRecordsOf text records → DenotesExtensionsOf text records
denotes_extensions text records all = denotes_of DenotesExtension (λ rs s d. all_ten rs d.described.items d.described.said) text records all
