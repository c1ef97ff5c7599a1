-- What the program shows of an extension's text beside the plan of a desk.
use Rattle.std.specs.Prelude.{◌≡◌, ◌⊎◌, ℕ, ℤ, List, Option, Some, None, IsSome}
use Rattle.plan_basics.specs.Minutes.{IsMinuteText}
use Rattle.plan_basics.specs.declared.Refusal.{Refusal}
use Rattle.plan_basics.specs.declared.keys.OpKey.{OpKey}
use Rattle.plan_records.specs.plan_model.specs.Contents.{Contents}
use Rattle.plan_records.specs.plan_model.specs.Plan.{Plan}
use Rattle.plan_records.specs.Answer.{accepted, refused}
use Rattle.plan_records.specs.Run.{State}
use Rattle.command_desks.specs.desk_tables.specs.Faults.{IsOpeningRefusal}
use Rattle.text_faults.specs.AddedTexts.{TextDenotesSomeAdded}
use Rattle.text_faults.specs.declared.additions.faults.AddedText.TheVariants as text
use Rattle.command_answers.specs.Answers.{IsShown}
use Rattle.command_answers.specs.Given.{IsNoMinute}
use Rattle.text_commands.specs.Beside.{IsBesideShown}
use Rattle.text_commands.specs.Judged.{IsJudged}
use Rattle.command_words.specs.Words.{text_or_empty}
use Rattle.command_desks.specs.Loaded.{IsLoadRefusal, IsLoaded}
use Rattle.command_answers.specs.declared.endings.Ending.{Ending}

-- a draft was loaded into a new desk at the minute, and the text was judged beside its plan; or the refusal of the load was shown
abbrev pub IsBesidePlanned : List ℕ → ℤ → Option Contents → Option (List ℕ) → Option (List ℕ) → Ending → Type 0
IsBesidePlanned bytes z found old new e =
    ((named : List OpKey) × (s : State) × IsLoaded z found (accepted named) s × IsBesideShown s.plan bytes old new e)
    ⊎ ((r : Refusal) × IsLoadRefusal z found r × IsShown (refused r) old new e)

-- so it was, of some draft
abbrev pub IsBesideText : List ℕ → ℤ → Option (List ℕ) → Option (List ℕ) → Ending → Type 0
IsBesideText bytes z old new e = (found : Option Contents) × IsBesidePlanned bytes z found old new e

-- so some text was
abbrev pub IsSomeBesideText : ℤ → Option (List ℕ) → Option (List ℕ) → Ending → Type 0
IsSomeBesideText z old new e = (bytes : List ℕ) × IsBesideText bytes z old new e

-- the text was judged beside the plan of some desk; or why that can't be opened was shown
abbrev pub IsBesideDesk : List ℕ → Option (List ℕ) → Option (List ℕ) → Ending → Type 0
IsBesideDesk bytes old new e =
    ((P : Plan) × IsBesideShown P bytes old new e)
    ⊎ ((r : Refusal) × IsOpeningRefusal r × IsShown (refused r) old new e)

-- an extension's text was judged: beside the plan of a database's desk where the words give that, beside the plan of a text at a moment where they give these, else without a plan
abbrev pub IsExtensionJudged : Option (List ℕ) → Option (List ℕ) → Option (List ℕ) → Option (List ℕ) → Option (List ℕ) → Ending → Type 0
IsExtensionJudged (Some db) plan at old new e = (bytes : List ℕ) × IsBesideDesk bytes old new e
IsExtensionJudged None (Some plan) at old new e =
    (z : ℤ) × IsMinuteText (text_or_empty at) z × IsSomeBesideText z old new e
IsExtensionJudged None None at old new e = (bytes : List ℕ) × IsJudged (TextDenotesSomeAdded text.Extension bytes) old new e

-- the words give no moment at which to load the plan's text beside which an extension's is to be judged: a plan's text, but no database, and no minute
abbrev pub LacksMoment : Option (List ℕ) → Option (List ℕ) → Option (List ℕ) → Type 0
LacksMoment db plan at = (db ≡ None) × IsSome plan × IsNoMinute (text_or_empty at)
