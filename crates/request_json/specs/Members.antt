-- Members of JSON objects.
use Rattle.std.specs.Prelude.{◌≡◌, ℕ, List, length, Option, Some, option_map, IsUtf8}
use Rattle.std.specs.List.{AllByRecursion}
use Rattle.serde_json.specs.Data.{Data, string}
use Rattle.serde_json.specs.Events.{members_len}
use Rattle.serde_json.specs.Find.{get, as_object}
use Rattle.serde_json.specs.Read.{read}

-- a member: its name and its value
abbrev pub Member : Type 0
Member = List ℕ × Data

-- the bytes are a JSON text of this value
abbrev pub IsJsonOf : List ℕ → Data → Type 0
IsJsonOf bytes d = IsUtf8 bytes × (read bytes ≡ Some d)

-- the value is an object with this member
abbrev pub HasMember : Data → Member → Type 0
HasMember d m = get m.0 d ≡ Some m.1

-- how many members an object has, each name counted once; none for what is no object
abbrev pub member_count : Data → Option ℕ
member_count d = option_map members_len (as_object d)

-- the value is an object of these members and no others
abbrev pub HasExactly : Data → List Member → Type 0
HasExactly d members = (member_count d ≡ Some (length members)) × AllByRecursion (HasMember d) members

-- a member of this name is a text that spells something
abbrev pub HasText : Data → List ℕ → (List ℕ → Type 0) → Type 0
HasText d name spells = (text : List ℕ) × HasMember d (name, string text) × spells text

-- a member of this name is a legal name
abbrev pub IsNameAt : Data → List ℕ → (List ℕ → Type 0) → List ℕ → Type 0
IsNameAt d member IsLegal name = IsLegal name × HasMember d (member, string name)
