-- The records that a request brings to a plan: those of an addition, or of an extension.
use Rattle.std.specs.Prelude.{List, ℕ, codes, string_bytes}
use Rattle.serde_json.specs.Data.{Data, string}
use Rattle.request_json.specs.Members.{IsJsonOf, HasMember}
use Rattle.request_json.specs.declared.records.Brought.{Brought}
use Rattle.request_json.specs.declared.records.Brought.TheVariants as brought

-- with this `do` the value has these records
abbrev pub HasRecords : Data → List ℕ → List ℕ → Type 0
HasRecords d verb text = HasMember d (codes "do", string verb) × HasMember d (codes "records", string text)

-- the value brings these records
abbrev pub BringsAt : Data → Brought → Type 0
BringsAt d (brought.Addition text) = HasRecords d (codes "add") (string_bytes text)
BringsAt d (brought.Extension text) = HasRecords d (codes "extend") (string_bytes text)

-- the bytes are the JSON text of a value that does
abbrev pub Brings : List ℕ → Brought → Type 0
Brings body b = (d : Data) × IsJsonOf body d × BringsAt d b
