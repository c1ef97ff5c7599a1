-- What the program shows of an extension's text beside the plan that it is to extend.
use Rattle.std.specs.Prelude.{◌≡◌, ◌⊎◌, true, false, pos, ℕ, List, Option, MatchOption}
use Rattle.plan_basics.specs.declared.Refusal.{Refusal}
use Rattle.plan_basics.specs.declared.Refusal.TheVariants as refusal
use Rattle.plan_basics.specs.declared.keys.OpKey.{OpKey}
use Rattle.plan_records.specs.plan_model.specs.Contents.{AddedParts}
use Rattle.plan_records.specs.plan_model.specs.Plan.{Plan}
use Rattle.plan_records.specs.Answer.{accepted, refused}
use Rattle.plan_records.specs.Step.{Step}
use Rattle.plan_records.specs.declared.Request.{Request}
use Rattle.plan_records.specs.declared.What.TheVariants.{Extend}
use Rattle.command_answers.specs.Answers.{IsShown}
use Rattle.command_answers.specs.Given.{IsExtensionOf}
use Rattle.text_commands.specs.Judged.{IsJudged}
use Rattle.command_answers.specs.declared.endings.Ending.{Ending}

-- the extension of the plan at its clock; by none, for a text that denotes none
abbrev pub extension_at_clock : Plan → Option AddedParts → Request
extension_at_clock P found = record { at = pos P.clock; what = Extend found }

-- the plan accepts the request
abbrev pub Accepts : Plan → Request → Type 0
Accepts P q = (named : List OpKey) × (after : Plan) × Step P q (accepted named) after

-- it refuses the request for this
abbrev pub Refuses : Plan → Request → Refusal → Type 0
Refuses P q r = Step P q (refused r) P

-- what the plan refuses the request for is told; nothing where it accepts it
abbrev pub IsRefusalTold : Plan → Request → Option Refusal → Type 0
IsRefusalTold P q told = MatchOption told (Accepts P q) (Refuses P q)

-- the plan takes the extension: it accepts it at its clock
abbrev pub Takes : Plan → Option AddedParts → Type 0
Takes P found = Accepts P (extension_at_clock P found)

-- a text was judged as an extension beside the plan: something was shown of its faults, and then how many there are; none exactly where the plan takes what it denotes
abbrev pub IsJudgedBeside : Plan → List ℕ → Option (List ℕ) → Option (List ℕ) → Ending → Type 0
IsJudgedBeside P bytes old new e = (found : Option AddedParts) × IsExtensionOf bytes found × IsJudged (Takes P found) old new e

-- so it was where a plan is loaded; where none is, that was shown as the refusal that it is
abbrev pub IsBesideShown : Plan → List ℕ → Option (List ℕ) → Option (List ℕ) → Ending → Type 0
IsBesideShown P bytes old new e =
    ((P.loaded ≡ true) × IsJudgedBeside P bytes old new e)
    ⊎ ((P.loaded ≡ false) × IsShown (refused refusal.NotLoaded) old new e)
