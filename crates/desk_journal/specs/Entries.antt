-- What a line of a journal says.
use Rattle.std.specs.Prelude.{◌≡◌, ◌≢◌, ◌⊎◌, ℕ, List, [], codes, Option, Some, None, IsUtf8, option_and_then, unwrap_or}
use Rattle.serde_json.specs.Data.{Data}
use Rattle.serde_json.specs.Find.{get, as_number, as_str, as_u64}
use Rattle.serde_json.specs.Read.{read}
use Rattle.desk_journal.specs.declared.entries.Entry.{Entry}
use Rattle.desk_journal.specs.declared.entries.Entry.TheVariants as entry

-- the bytes are a JSON text of this value
abbrev pub IsTextOf : List ℕ → Data → Type 0
IsTextOf bytes d = IsUtf8 bytes × (read bytes ≡ Some d)

-- the text of a member, if it has one
abbrev pub text_at : List ℕ → Data → Option (List ℕ)
text_at name d = option_and_then as_str (get name d)

-- the path of a request, if it has one
abbrev pub path_of : Data → Option (List ℕ)
path_of d = text_at (codes "path") d

-- the body of a request; nothing, where it was no text
abbrev pub body_of : Data → List ℕ
body_of d = unwrap_or (text_at (codes "body") d) []

-- the status of an answer, if it has one
abbrev pub status_of : Data → Option ℕ
status_of d = option_and_then as_u64 (option_and_then as_number (get (codes "status") d))

-- what a line's value says: a request by its path, and an answer, which has none, by its status; or nothing of a journal
abbrev pub IsEntryOf : Data → Entry → Type 0
IsEntryOf d (entry.Report body) = (path_of d ≡ Some (codes "/report")) × (body.items ≡ body_of d)
IsEntryOf d (entry.Operator body) = (path_of d ≡ Some (codes "/operator")) × (body.items ≡ body_of d)
IsEntryOf d (entry.Answer status) = (path_of d ≡ None) × (status_of d ≡ Some status)
IsEntryOf d entry.Other =
    ((path : List ℕ) × (path_of d ≡ Some path) × (path ≢ codes "/report") × (path ≢ codes "/operator")) ⊎ ((path_of d ≡ None) × (status_of d ≡ None))
IsEntryOf d entry.Cut = ⊥

-- what a line says: what its value does; or it is no JSON text, and was cut short
abbrev pub IsEntry : List ℕ → Entry → Type 0
IsEntry line entry.Cut = (d : Data) → ¬ IsTextOf line d
IsEntry line e = (d : Data) × IsTextOf line d × IsEntryOf d e
