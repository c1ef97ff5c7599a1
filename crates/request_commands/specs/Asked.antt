-- What a desk answers to the request that the words give.
use Rattle.std.specs.Prelude.{◌≡◌, ◌⊎◌, ℕ, ℤ, List, Option}
use Rattle.plan_basics.specs.Minutes.{IsMinuteText}
use Rattle.plan_basics.specs.declared.Refusal.{Refusal}
use Rattle.plan_records.specs.plan_model.specs.Contents.{AddedParts}
use Rattle.plan_records.specs.Answer.{Answer, refused}
use Rattle.plan_records.specs.Run.{Answers, State, Usable, plain}
use Rattle.plan_records.specs.declared.Request.{Request}
use Rattle.plan_records.specs.declared.What.TheVariants.{Extend}
use Rattle.command_desks.specs.desk_tables.specs.Faults.{IsOpeningRefusal}
use Rattle.command_answers.specs.request_json.specs.Requests.{ReadsAsRequest}
use Rattle.command_answers.specs.Answers.{IsShown}
use Rattle.command_answers.specs.declared.endings.Ending.{Ending}

-- a desk answers so to a request; or no desk could be opened, and the answer says why
abbrev pub IsAnswerTo : Request → Answer → Type 0
IsAnswerTo q a =
    ((s : State) × (u : Usable) × (t : State) × (v : Usable) × Answers s u (plain q) a t v)
    ⊎ ((r : Refusal) × IsOpeningRefusal r × (a ≡ refused r))

-- the answer to this request was shown
abbrev pub IsRequestAnswered : Request → Option (List ℕ) → Option (List ℕ) → Ending → Type 0
IsRequestAnswered q old new ending = (a : Answer) × IsAnswerTo q a × IsShown a old new ending

-- the answer was shown to the request that this text says
abbrev pub IsRequestShown : List ℕ → Option (List ℕ) → Option (List ℕ) → Ending → Type 0
IsRequestShown text old new ending = (q : Request) × ReadsAsRequest text q × (a : Answer) × IsAnswerTo q a × IsShown a old new ending

-- the extension of the plan at a minute; by none, for a text that denotes none
abbrev pub extend_request : ℤ → Option AddedParts → Request
extend_request at found = record { at = at; what = Extend found }

-- the answer to an extension at the moment of this text was shown
abbrev pub IsExtendShown : List ℕ → Option (List ℕ) → Option (List ℕ) → Ending → Type 0
IsExtendShown moment old new ending =
    (at : ℤ) × IsMinuteText moment at × (found : Option AddedParts) × (a : Answer) × IsAnswerTo (extend_request at found) a × IsShown a old new ending
