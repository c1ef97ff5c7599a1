-- What the program shows of a desk's answer.
use Rattle.std.specs.Prelude.{◌≡◌, ℕ, List, [], ◌∷◌, ◌++◌, flat_map, codes, decimal, Option}
use Rattle.std.specs.Io.KnownBytes.{Appends}
use Rattle.plan_basics.specs.KeyTexts.{operation_text}
use Rattle.plan_basics.specs.Refusals.{number_of, name_of}
use Rattle.plan_basics.specs.declared.keys.OpKey.{OpKey}
use Rattle.plan_basics.specs.declared.Refusal.{Refusal}
use Rattle.plan_records.specs.Answer.{Answer, accepted, refused}
use Rattle.command_answers.specs.Statuses.{ending_of}
use Rattle.command_answers.specs.declared.endings.Ending.{Ending}

-- a line: these bytes, and LF
abbrev pub line : List ℕ → List ℕ
line text = text ++ 10 ∷ []

-- the line of an operation that is named to start
abbrev pub start_line : OpKey → List ℕ
start_line key = line (codes "starts " ++ operation_text key)

-- the line of a refusal: its number and its name
abbrev pub refusal_line : Refusal → List ℕ
refusal_line r = line (codes "refused " ++ decimal (number_of r) ++ codes " " ++ name_of r)

-- the whole text of an answer: that it is accepted, and a line for each operation that is named, in their order; or the refusal
abbrev pub answer_text : Answer → List ℕ
answer_text (accepted named) = line (codes "accepted") ++ flat_map start_line named
answer_text (refused r) = refusal_line r

-- an answer was shown: its whole text was added to the known bytes, and the run ends as it says
abbrev pub IsShown : Answer → Option (List ℕ) → Option (List ℕ) → Ending → Type 0
IsShown a old new ending = Appends old new (answer_text a) × (ending ≡ ending_of a)
