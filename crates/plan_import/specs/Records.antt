-- Which records bytes read as, by the reader of comma-separated fields without a header row, without trimming and with records of one length.
use Rattle.std.specs.Prelude.{◌≡◌, ℕ, List, [], Option, Some, None, false, length, IfSome}
use Rattle.std.specs.List.{AllByRecursion, AllZip}
use Rattle.csv.specs.Machine.{Read, next_record}
use Rattle.csv.specs.Reading.{AreRecords, Ready, default_config, source_of, reader_config, reader_trim, reader_state, is_flexible, expected_len}
use Rattle.csv.specs.declared.reader.Reader.{Reader}
use Rattle.csv.specs.declared.reader.Trim.TheVariants as trim
use Rattle.csv.specs.declared.parser.State.TheVariants as st
use Rattle.plan_items.specs.Items.{Fields, Says}
use Rattle.plan_items.specs.declared.Item.{Item}
use Rattle.plan_import.specs.declared.Said.{Said}
use Rattle.plan_import.specs.declared.Said.TheVariants as said

-- a record of ten fields
abbrev pub IsTen : Fields → Type 0
IsTen fields = length fields ≡ 10

-- the bytes' records are these, and each has ten fields
abbrev pub AreOfTen : List ℕ → List Fields → Type 0
AreOfTen bytes records = AreRecords default_config st.StartRecord bytes records × AllByRecursion IsTen records

-- the bytes' records, each of ten fields, say these items; or, as nothing, they say no such list
abbrev pub IsSaidIn : List ℕ → Option (List Item) → Type 0
IsSaidIn bytes (Some items) = (records : List Fields) × AreOfTen bytes records × AllZip Says records items
IsSaidIn bytes None = ¬ ((records : List Fields) × AreOfTen bytes records × (items : List Item) × AllZip Says records items)

-- a record of ten fields that says something
abbrev pub SaysSome : Fields → Type 0
SaysSome fields = IsTen fields × (item : Item) × Says fields item

-- a reader as it is set up here: no trimming, no header row, records of one length, which is ten once one was read
pub record IsPlain {R : Type 0} (text : Reader R) : Type 0 where
  pub trim : reader_trim text ≡ trim.None
  pub ready : Ready text
  pub config : reader_config text ≡ default_config
  pub flexible : is_flexible text ≡ false
  pub length : IfSome (expected_len text) (λ n. n ≡ 10)

-- the next record of a reader whose bytes are known
abbrev pub next_of : {R : Type 0} → Reader R → List ℕ → Option Read
next_of text bytes = next_record default_config (reader_state text) [] [] bytes

-- what the next record says, of the reader before and after it, where its bytes are known: an item, or nothing, as a record of another length does, or the end
abbrev pub SaysNext : {R : Type 0} → (R → Option (List ℕ)) → Reader R → Reader R → Said → Type 0
SaysNext remaining old new (said.Item item) = IsPlain new × (fields : Fields) × IsTen fields × Says fields item
    × ((bytes : List ℕ) → source_of remaining old ≡ Some bytes → (rest : List ℕ) × (source_of remaining new ≡ Some rest) × (next_of old bytes ≡ Some (fields, reader_state new, rest)))
SaysNext remaining old new said.Nothing = (bytes : List ℕ) → source_of remaining old ≡ Some bytes → (p : Read) × (next_of old bytes ≡ Some p) × ¬ SaysSome p.0
SaysNext remaining old new said.End = (bytes : List ℕ) → source_of remaining old ≡ Some bytes → next_of old bytes ≡ None
