-- The fields of a head, each a name and a value, and the length that a value tells.
use Rattle.std.specs.Prelude.{◌≡◌, ℕ, ◌<◌, ◌≤◌, Bool, List, length, map, filter, All}
use Rattle.std.specs.Str.{bytes_eq, str_to_ascii_lowercase}
use Rattle.std.specs.Str.Parse.{digits_value}

-- the field has this name, whatever the case of its letters
abbrev pub is_named : List ℕ → List ℕ × List ℕ → Bool
is_named name field = bytes_eq (str_to_ascii_lowercase field.0) (str_to_ascii_lowercase name)

-- the values of the fields of this name
abbrev pub values_of : List ℕ → List (List ℕ × List ℕ) → List (List ℕ)
values_of name fields = map (λ field. field.1) (filter (is_named name) fields)

-- one of the digits 0 to 9
abbrev pub IsDigit : ℕ → Type 0
IsDigit b = (48 ≤ b) × (b ≤ 57)

-- the value is one to nine decimal digits
pub record IsLengthText (value : List ℕ) : Type 0 where
  pub digits : All IsDigit value
  pub some : 0 < length value
  pub short : length value ≤ 9

-- the value is this number in one to nine decimal digits
abbrev pub TellsLength : List ℕ → ℕ → Type 0
TellsLength value n = IsLengthText value × (n ≡ digits_value 10 value)
