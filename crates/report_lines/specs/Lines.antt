-- How the lines of a report are laid out.
use Rattle.std.specs.Prelude.{ℕ, ◌-◌, List, [], ◌∷◌, ◌++◌, length, replicate, flat_map, codes, decimal}
use Rattle.report_lines.specs.declared.lines.Field.{Field}
use Rattle.report_lines.specs.declared.lines.Field.TheVariants.{Left, Right, Word}

-- a text at the left of its column: spaces follow it up to the width
abbrev pub left : ℕ → List ℕ → List ℕ
left width text = text ++ replicate (width - length text) 32

-- a number at the right of its column: spaces precede its digits up to the width
abbrev pub right : ℕ → ℕ → List ℕ
right width number = replicate (width - length (decimal number)) 32 ++ decimal number

-- what a field of a line shows
abbrev pub shown : Field → List ℕ
shown (Word text) = text.now
shown (Left width text) = left width text.now
shown (Right width number) = right width number

-- further fields of a line, a space before each, and the line's end, LF
abbrev pub line_rest : List (List ℕ) → List ℕ
line_rest [] = 10 ∷ []
line_rest (field ∷ fields) = 32 ∷ field ++ line_rest fields

-- a line: its fields, one space between two, and LF
abbrev pub line : List (List ℕ) → List ℕ
line [] = 10 ∷ []
line (field ∷ fields) = field ++ line_rest fields

-- a report: its first line, a line for each row, and the line that tells their number
abbrev pub report : List (List ℕ) → List (List (List ℕ)) → List ℕ
report head rows = line head ++ flat_map line rows ++ line (codes "END" ∷ decimal (length rows) ∷ [])
