-- What the program shows of the faults of a text: of a plan's, of an extension's without a plan, or of a request's.
use Rattle.std.specs.Prelude.{◌≡◌, ◌≢◌, ◌↔◌, ◌==◌, if◌then◌else◌, ℕ, List, ◌++◌, Option, Some, None, codes, decimal}
use Rattle.std.specs.Io.KnownBytes.{Appends}
use Rattle.request_json.specs.RequestFaults.{ReadsAsSomeRequest}
use Rattle.text_faults.specs.TextFaults.{TextDenotesSome}
use Rattle.command_answers.specs.Answers.{line}
use Rattle.command_answers.specs.declared.endings.Ending.{Ending}
use Rattle.command_answers.specs.declared.endings.Ending.TheVariants as ending

-- the last line: how many faults there are
abbrev pub count_line : ℕ → List ℕ
count_line count = if count == 0 then line (codes "no faults") else line (decimal count ++ codes " faults")

-- how the run ends then
abbrev pub ending_of_count : ℕ → Ending
ending_of_count count = if count == 0 then ending.Done else ending.Refused

-- something was shown of so many faults, and then how many they are
abbrev pub AreFaultsShown : ℕ → Option (List ℕ) → Option (List ℕ) → Ending → Type 0
AreFaultsShown count old new e = (told : List ℕ) × Appends old new (told ++ count_line count) × (e ≡ ending_of_count count)

-- a text was judged: something was shown of its faults, and then how many there are; none exactly where it denotes something
abbrev pub IsJudged : Type 0 → Option (List ℕ) → Option (List ℕ) → Ending → Type 0
IsJudged Denotes old new e =
    (count : ℕ) × (told : List ℕ) × Appends old new (told ++ count_line count) × (e ≡ ending_of_count count) × ((count ≡ 0) ↔ Denotes)

-- the request that a word gives was judged: the word itself, or else what standard input has, where the word is a hyphen
abbrev pub IsRequestJudged : List ℕ → Option (List ℕ) → Option (List ℕ) → Ending → Type 0
IsRequestJudged word old new e = (bytes : List ℕ) × (word ≢ codes "-" → bytes ≡ word) × IsJudged (ReadsAsSomeRequest bytes) old new e

-- some text was judged: as a request's where the words give one, else as a plan's
abbrev pub IsValidated : Option (List ℕ) → Option (List ℕ) → Option (List ℕ) → Ending → Type 0
IsValidated (Some request) old new e = IsRequestJudged request old new e
IsValidated None old new e = (bytes : List ℕ) × IsJudged (TextDenotesSome bytes) old new e
