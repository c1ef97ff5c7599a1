-- What a load of a text's plan is answered.
use Rattle.std.specs.Prelude.{◌≡◌, ◌⊎◌, ℕ, ℤ, List, Option}
use Rattle.plan_basics.specs.Minutes.{IsMinuteText}
use Rattle.plan_basics.specs.declared.Refusal.{Refusal}
use Rattle.command_desks.specs.Loaded.{load_request}
use Rattle.plan_records.specs.plan_model.specs.Contents.{Contents}
use Rattle.plan_records.specs.Answer.{Answer, refused}
use Rattle.plan_records.specs.Run.{CallStep, State, plain}
use Rattle.command_desks.specs.desk_tables.specs.plan_core.specs.Trials.{IsAnswerAlone}
use Rattle.command_desks.specs.desk_tables.specs.Faults.{IsOpeningRefusal}
use Rattle.command_answers.specs.Answers.{IsShown}
use Rattle.command_answers.specs.declared.endings.Ending.{Ending}

-- the answer of an empty desk to the load of a draft at the moment of this text was shown
abbrev pub IsCheckShown : List ℕ → Option (List ℕ) → Option (List ℕ) → Ending → Type 0
IsCheckShown moment old new ending =
    (at : ℤ) × IsMinuteText moment at × (found : Option Contents) × (a : Answer) × IsAnswerAlone at found a × IsShown a old new ending

-- a desk answers so to the load of a draft at a minute; or the tables are no plan's, memory lacks, or the store failed
abbrev pub IsLoadAnswer : ℤ → Option Contents → Answer → Type 0
IsLoadAnswer at found a =
    ((s : State) × (t : State) × CallStep s (plain (load_request at found)) a t)
    ⊎ ((r : Refusal) × IsOpeningRefusal r × (a ≡ refused r))

-- the answer to the load of this draft at this minute was shown
abbrev pub IsLoadOf : ℤ → Option Contents → Option (List ℕ) → Option (List ℕ) → Ending → Type 0
IsLoadOf at found old new ending = (a : Answer) × IsLoadAnswer at found a × IsShown a old new ending

-- the answer to the load of a draft at the moment of this text was shown
abbrev pub IsLoadShown : List ℕ → Option (List ℕ) → Option (List ℕ) → Ending → Type 0
IsLoadShown moment old new ending =
    (at : ℤ) × IsMinuteText moment at × (found : Option Contents) × (a : Answer) × IsLoadAnswer at found a × IsShown a old new ending
