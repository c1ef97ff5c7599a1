-- What the program shows of the night ahead: the text of a forecast, or the board's page.
use Rattle.std.specs.Prelude.{◌≡◌, ◌⊎◌, false, ℕ, ℤ, pos, ◌≤ℤ◌, List, Option, Some, None, option_map}
use Rattle.std.specs.Io.KnownBytes.{Appends}
use Rattle.plan_basics.specs.Minutes.{IsMoment}
use Rattle.plan_basics.specs.Refusals.{IsLeastRefusal, NoneRefuses}
use Rattle.plan_basics.specs.declared.Refusal.{Refusal}
use Rattle.plan_basics.specs.declared.Refusal.TheVariants as refusal
use Rattle.plan_basics.specs.declared.keys.OpKey.{OpKey}
use Rattle.plan_records.specs.plan_model.specs.Contents.{Contents}
use Rattle.plan_records.specs.plan_model.specs.Plan.{Plan}
use Rattle.plan_records.specs.Acceptance.{MayBeAccepted}
use Rattle.plan_records.specs.Answer.{accepted, refused}
use Rattle.plan_records.specs.Run.{State}
use Rattle.plan_records.specs.declared.Request.{Request}
use Rattle.plan_records.specs.declared.What.TheVariants.{Tick}
use Rattle.board_pages.specs.forecast_texts.specs.Texts.{IsForecastText}
use Rattle.board_pages.specs.forecast_texts.specs.plan_outlooks.specs.plan_forecast.specs.Ahead.{unknown}
use Rattle.board_pages.specs.Boards.{IsBoard}
use Rattle.command_desks.specs.desk_tables.specs.Faults.{IsOpeningRefusal}
use Rattle.command_answers.specs.Answers.{IsShown, refusal_line}
use Rattle.command_answers.specs.Given.{IsMinuteGiven}
use Rattle.command_answers.specs.declared.endings.Ending.{Ending}
use Rattle.command_answers.specs.declared.endings.Ending.TheVariants as ending
use Rattle.command_desks.specs.Loaded.{IsLoadRefusal, IsLoaded}
use Rattle.command_desks.specs.Given.{minute_asked}
use Rattle.report_commands.specs.declared.prospects.Prospect.{Prospect}
use Rattle.report_commands.specs.declared.prospects.Prospect.TheVariants as prospect

-- the text tells so of the night ahead, read off a forecast of this plan from a minute on, and up to that one, if one is asked for; of what is going it isn't known since when
abbrev pub IsProspect : Prospect → Plan → ℕ → Option ℕ → List ℕ → Type 0
IsProspect prospect.Forecast P from until text = IsForecastText P unknown from until text
IsProspect prospect.Board P from until text = IsBoard P unknown from (record { is_still = false; until = until }) None text

-- a tick at this minute, be it one that a plan can name or not
abbrev pub tick_at : ℤ → Request
tick_at z = record { at = z; what = Tick }

-- the last minute that is asked for, if one is, isn't refused for this: it isn't before the first one, and a plan can name it
abbrev pub MayBeLast : ℤ → Option ℤ → Refusal → Type 0
MayBeLast z None r = Unit {0}
MayBeLast z (Some u) refusal.Past = z ≤ℤ u
MayBeLast z (Some u) refusal.MomentRange = (m : ℕ) × (u ≡ pos m) × IsMoment m
MayBeLast z (Some u) r = Unit {0}

-- a forecast of this plan isn't refused for this: a tick at its first minute isn't, nor is its last one
abbrev pub MayBeForetold : Plan → ℤ → Option ℤ → Refusal → Type 0
MayBeForetold P z until r = MayBeAccepted P (tick_at z) r × MayBeLast z until r

-- it was shown of this plan: its text was added to the known bytes; or the line of what a forecast is refused for, of the least number that applies, or of want of memory
abbrev pub IsProspectShown : Prospect → Plan → ℤ → Option ℤ → Option (List ℕ) → Option (List ℕ) → Ending → Type 0
IsProspectShown k P z until old new ending.Done =
    (from : ℕ) × (z ≡ pos from) × (to : Option ℕ) × (until ≡ option_map pos to) × NoneRefuses (MayBeLast z until)
    × (text : List ℕ) × IsProspect k P from to text × Appends old new text
IsProspectShown k P z until old new ending.Refused =
    (r : Refusal) × ((r ≡ refusal.Memory) ⊎ IsLeastRefusal (MayBeForetold P z until) r) × Appends old new (refusal_line r)
IsProspectShown k P z until old new ending.Misunderstood = ⊥

-- a draft was loaded into a new desk at the first minute, and it was shown of that plan; or the refusal of the load was
abbrev pub IsProspectPlanned : Prospect → ℤ → Option ℤ → Option Contents → Option (List ℕ) → Option (List ℕ) → Ending → Type 0
IsProspectPlanned k z until found old new e =
    ((named : List OpKey) × (s : State) × IsLoaded z found (accepted named) s × IsProspectShown k s.plan z until old new e)
    ⊎ ((r : Refusal) × IsLoadRefusal z found r × IsShown (refused r) old new e)

-- so it was with a plan's text, whatever draft that gives
abbrev pub IsProspectOfText : Prospect → ℤ → Option ℤ → Option (List ℕ) → Option (List ℕ) → Ending → Type 0
IsProspectOfText k z until old new e = (found : Option Contents) × IsProspectPlanned k z until found old new e

-- it was shown of the plan of some desk, where no first minute is given from its clock on; or why that desk can't be opened
abbrev pub IsProspectOfDesk : Prospect → Option ℤ → Option ℤ → Option (List ℕ) → Option (List ℕ) → Ending → Type 0
IsProspectOfDesk k z until old new e =
    ((P : Plan) × IsProspectShown k P (minute_asked z P) until old new e)
    ⊎ ((r : Refusal) × IsOpeningRefusal r × IsShown (refused r) old new e)

-- it was shown between the minutes that these texts give, of a desk that was there or of a plan's text
abbrev pub IsProspectAsked : Prospect → Option (List ℕ) → Option (List ℕ) → Option (List ℕ) → Option (List ℕ) → Ending → Type 0
IsProspectAsked k at last old new e =
    (z : Option ℤ) × IsMinuteGiven at z × (until : Option ℤ) × IsMinuteGiven last until
    × (IsProspectOfDesk k z until old new e ⊎ ((m : ℤ) × (z ≡ Some m) × IsProspectOfText k m until old new e))
