-- That a plan has one text at most for each report.
use Rattle.std.specs.Prelude.{◌≡◌, ℕ, List}

-- all texts of which this is so are one
abbrev pub IsOneText : (List ℕ → Type 0) → Type 0
IsOneText IsText = (a b : List ℕ) → IsText a → IsText b → a ≡ b
