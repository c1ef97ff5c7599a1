-- Whole numbers as a record writes them.
use Rattle.std.specs.Prelude.{◌≡◌, ℕ, ◌<◌, ◌≤◌, List, length, slice_index, All}

-- one of the digits 0 to 9
abbrev pub IsDigit : ℕ → Type 0
IsDigit b = (48 ≤ b) × (b ≤ 57)

-- decimal digits, at least one, with no zero before them
pub record IsPlainNumeral (text : List ℕ) : Type 0 where
  pub digits : All IsDigit text
  pub some : 0 < length text
  pub no_zero_before : slice_index text 0 ≡ 48 → length text ≡ 1
