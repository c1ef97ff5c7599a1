-- Where a byte stands among the records and fields of a text, as the reader of records has it.
use Rattle.std.specs.Prelude.{ℕ, Bool, true, false, ◌&&◌, not}
use Rattle.csv.specs.Machine.{ends_with}
use Rattle.csv.specs.declared.parser.State.{State}
use Rattle.csv.specs.declared.parser.State.TheVariants as st
use Rattle.csv.specs.declared.parser.Terminator.TheVariants as term
use Rattle.plan_import.specs.declared.lines.lines.Place.{Place}
use Rattle.plan_import.specs.declared.lines.lines.Place.TheVariants as place

-- the reader's state at a place
abbrev pub state_of : Place → State
state_of place.Between = st.StartRecord
state_of place.AfterReturn = st.AfterCr
state_of place.FieldStart = st.StartField
state_of place.Unquoted = st.InField
state_of place.Quoted = st.InQuoted
state_of place.AfterQuote = st.AfterQuote

-- no record is begun
abbrev pub is_between : State → Bool
is_between st.StartRecord = true
is_between st.AfterCr = true
is_between st.StartField = false
is_between st.InField = false
is_between st.InQuoted = false
is_between st.AfterQuote = false
is_between st.InEscape = false
is_between st.InComment = false

-- a record begins with the byte
abbrev pub begins : State → ℕ → Bool
begins state byte = is_between state && not (ends_with term.CRLF byte)
