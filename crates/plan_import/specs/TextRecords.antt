-- The records of a text, each with as many fields as it has.
use Rattle.std.specs.Prelude.{ℕ, List, map, Vec}
use Rattle.std.specs.declared.alloc.Global.{Global}
use Rattle.csv.specs.Reading.{AreRecords, default_config, strip_bom}
use Rattle.csv.specs.declared.parser.State.TheVariants as st
use Rattle.plan_items.specs.Items.{Fields, fields_of}

-- the fields of records, without where they lie in memory
abbrev pub texts_of : List (Vec (Vec ℕ Global) Global) → List Fields
texts_of records = map (λ (r : Vec (Vec ℕ Global) Global). fields_of r.items) records

-- these are all the records of a text, in their order; a byte order mark at its front is no part of the first
abbrev pub AreRecordsOf : List ℕ → List Fields → Type 0
AreRecordsOf text records = AreRecords default_config st.StartRecord (strip_bom text) records
