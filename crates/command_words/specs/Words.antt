-- The words that the program is given.
use Rattle.std.specs.Prelude.{ℕ, List, [], Option, Some, None}
use Rattle.clap.specs.Matches.{first_value}
use Rattle.clap.specs.declared.parser.matches.Found.{Found}

-- the text of an option's value; empty where it has none
abbrev pub text_or_empty : Option (List ℕ) → List ℕ
text_or_empty (Some text) = text
text_or_empty None = []

-- the text that the words give an option
abbrev pub text_given : Found → List ℕ → List ℕ
text_given found name = text_or_empty (first_value found name)
