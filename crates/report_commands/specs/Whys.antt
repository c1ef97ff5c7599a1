-- What the program shows of why an operation doesn't go on.
use Rattle.std.specs.Prelude.{◌≡◌, ◌⊎◌, Bool, true, ℕ, ℤ, pos, List, Option, Some}
use Rattle.plan_basics.specs.Minutes.{IsMoment}
use Rattle.plan_basics.specs.declared.Refusal.{Refusal}
use Rattle.plan_basics.specs.declared.Refusal.TheVariants as refusal
use Rattle.plan_basics.specs.declared.keys.OpKey.{OpKey}
use Rattle.plan_records.specs.plan_model.specs.Contents.{Contents}
use Rattle.plan_records.specs.plan_model.specs.Plan.{Plan}
use Rattle.plan_records.specs.Answer.{accepted, refused}
use Rattle.plan_records.specs.Run.{State}
use Rattle.command_desks.specs.Given.{minute_asked}
use Rattle.command_desks.specs.desk_tables.specs.Faults.{IsOpeningRefusal}
use Rattle.plan_reports.specs.Reports.{IsWhyReport, why_refusal_of}
use Rattle.plan_reports.specs.plan_shows.specs.Typed.{IsTypedOperation}
use Rattle.command_answers.specs.Answers.{IsShown}
use Rattle.command_answers.specs.Given.{IsMinuteGiven}
use Rattle.report_commands.specs.Shown.{IsTold}
use Rattle.command_desks.specs.Loaded.{IsLoadRefusal, IsLoaded}
use Rattle.command_answers.specs.declared.endings.Ending.{Ending}

-- it was shown why the operation doesn't go on at the minute, or why that is refused: first where a plan can't name the minute, and then as the desk owes it
abbrev pub IsWhyShown : OpKey → ℤ → Bool → Plan → Option (List ℕ) → Option (List ℕ) → Ending → Type 0
IsWhyShown o z usable P old new e =
    ((m : ℕ) × (z ≡ pos m) × IsTold (why_refusal_of usable P o) (IsWhyReport P o m) old new e)
    ⊎ (((m : ℕ) → z ≡ pos m → ¬ IsMoment m) × IsShown (refused refusal.MomentRange) old new e)

-- a draft was loaded into a new desk at the minute, and it was shown there; or the refusal of the load was
abbrev pub IsWhyPlanned : OpKey → ℤ → Option Contents → Option (List ℕ) → Option (List ℕ) → Ending → Type 0
IsWhyPlanned o z found old new ending =
    ((named : List OpKey) × (s : State) × IsLoaded z found (accepted named) s × IsWhyShown o z true s.plan old new ending)
    ⊎ ((r : Refusal) × IsLoadRefusal z found r × IsShown (refused r) old new ending)

-- a plan's text, whatever draft it gives, was loaded into a new desk at the minute, and it was shown there; or the refusal of the load was
abbrev pub IsWhyOfText : OpKey → ℤ → Option (List ℕ) → Option (List ℕ) → Ending → Type 0
IsWhyOfText o z old new ending = (found : Option Contents) × IsWhyPlanned o z found old new ending

-- it was shown at some desk; or why that can't be opened
abbrev pub IsWhyOfDesk : OpKey → Option ℤ → Option (List ℕ) → Option (List ℕ) → Ending → Type 0
IsWhyOfDesk o z old new ending =
    ((usable : Bool) × (P : Plan) × IsWhyShown o (minute_asked z P) usable P old new ending)
    ⊎ ((r : Refusal) × IsOpeningRefusal r × IsShown (refused r) old new ending)

-- it was shown of the operation that the text names, at a desk that was there or at one of a plan's text
abbrev pub IsWhyAsked : List ℕ → Option (List ℕ) → Option (List ℕ) → Option (List ℕ) → Ending → Type 0
IsWhyAsked op at old new ending =
    (o : OpKey) × IsTypedOperation op o × (z : Option ℤ) × IsMinuteGiven at z
    × (IsWhyOfDesk o z old new ending ⊎ ((m : ℤ) × (z ≡ Some m) × (found : Option Contents) × IsWhyPlanned o m found old new ending))

-- the text is no key of an operation
abbrev pub IsNoTypedOperation : List ℕ → Type 0
IsNoTypedOperation text = (o : OpKey) → ¬ IsTypedOperation text o
