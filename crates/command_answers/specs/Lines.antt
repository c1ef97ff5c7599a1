-- Texts that are taken line by line.
use Rattle.std.specs.Prelude.{◌≡◌, ◌≢◌, ℕ, ◌==◌, Bool, List, [], Option, Result, Ok, Err, decimal}
use Rattle.std.specs.Io.KnownBytes.{Appends}
use Rattle.std.specs.List.{after_first, before_first}
use Rattle.command_answers.specs.Answers.{line}
use Rattle.command_answers.specs.Statuses.{IsOfSurroundings}
use Rattle.command_answers.specs.declared.endings.Fault.{Fault}
use Rattle.command_answers.specs.declared.endings.Fault.TheVariants as fault

-- the byte that ends a line, LF
abbrev pub is_line_end : ℕ → Bool
is_line_end b = b == 10

-- a text that isn't empty begins with this line, which goes up to the first LF or else to the text's end, and this comes after it
abbrev pub IsFirstLine : List ℕ → List ℕ → List ℕ → Type 0
IsFirstLine text first rest = (text ≢ []) × (first ≡ before_first is_line_end text) × (rest ≡ after_first is_line_end text)

-- what is shown of a line that is no request: its number
abbrev pub number_line : ℕ → List ℕ
number_line n = line (decimal n)

-- the number of a line was shown that is none of its text's; or the surroundings are at fault
abbrev pub IsNumberShown : {X : Type 0} → ℕ → Option (List ℕ) → Option (List ℕ) → Result X Fault → Type 0
IsNumberShown n old new (Ok refuses) = ⊥
IsNumberShown n old new (Err fault.Request) = Appends old new (number_line n)
IsNumberShown n old new (Err f) = IsOfSurroundings f
