-- What `play` makes of a text of requests, line by line, and what it shows.
use Rattle.std.specs.Prelude.{◌≡◌, ◌⊎◌, ℕ, ◌+◌, ◌==◌, ◌||◌, Bool, true, false, List, [], ◌++◌, Option, Result, Ok, Err, codes, decimal, ℤ}
use Rattle.std.specs.Io.KnownBytes.{Appends}
use Rattle.std.specs.List.{list_all}
use Rattle.plan_basics.specs.Minutes.{IsShownAs}
use Rattle.plan_basics.specs.declared.Refusal.{Refusal}
use Rattle.plan_basics.specs.declared.keys.OpKey.{OpKey}
use Rattle.plan_records.specs.plan_model.specs.Contents.{Contents}
use Rattle.plan_records.specs.Answer.{Answer, accepted, refused}
use Rattle.plan_records.specs.Run.{Answers, State, Usable, plain, usable}
use Rattle.command_desks.specs.Loaded.{IsLoadRefusal, IsLoaded}
use Rattle.plan_records.specs.declared.Request.{Request}
use Rattle.command_answers.specs.request_json.specs.Requests.{ReadsAsRequest}
use Rattle.command_answers.specs.Answers.{IsShown, answer_text, line}
use Rattle.command_answers.specs.Given.{IsNoRequest}
use Rattle.command_answers.specs.Lines.{IsFirstLine, number_line}
use Rattle.command_answers.specs.Statuses.{IsOfSurroundings}
use Rattle.command_answers.specs.declared.endings.Ending.{Ending}
use Rattle.command_answers.specs.declared.endings.Ending.TheVariants as ending
use Rattle.command_answers.specs.declared.endings.Fault.{Fault}
use Rattle.command_answers.specs.declared.endings.Fault.TheVariants as fault

-- a byte that JSON passes over, within a line: a space, a tab or CR
abbrev pub is_blank_byte : ℕ → Bool
is_blank_byte b = (b == 32) || (b == 9) || (b == 13)

-- a line has nothing else
abbrev pub IsBlank : List ℕ → Type 0
IsBlank text = list_all is_blank_byte text ≡ true

-- what is shown before an answer: the number of the request's line, and the request's moment
abbrev pub turn_head : ℕ → List ℕ → List ℕ
turn_head n moment = line (decimal n ++ codes " " ++ moment)

-- whether it refuses
abbrev pub is_refusal : Answer → Bool
is_refusal (accepted named) = false
is_refusal (refused r) = true

-- the line of this number is played: it is blank, and nothing is shown or changed; or it says a request, the desk answers it, and line number, moment and answer are shown
abbrev pub PlaysLine : ℕ → List ℕ → State → Usable → List ℕ → Bool → State → Usable → Type 0
PlaysLine n text s u shown refuses t v =
    (IsBlank text × (shown ≡ []) × (refuses ≡ false) × (t ≡ s) × (v ≡ u))
    ⊎ ((q : Request) × ReadsAsRequest text q × (moment : List ℕ) × IsShownAs q.at moment × (a : Answer) × Answers s u (plain q) a t v
    × (shown ≡ turn_head n moment ++ answer_text a) × (refuses ≡ is_refusal a))

-- how lines end that come after these: refused, where one of these was refused and each is a request
abbrev pub joined : Bool → Result Ending Fault → Result Ending Fault
joined true (Ok e) = Ok ending.Refused
joined true (Err f) = Err f
joined false outcome = outcome

-- after so many lines, the lines of a text are played to their end, or to the first that is no request; all that is shown is this
pub data Plays : ℕ → List ℕ → State → Usable → List ℕ → Result Ending Fault → Type 0 where
  no_more : (n : ℕ) (s : State) (u : Usable) → Plays n [] s u [] (Ok ending.Done)
  goes_on : (n : ℕ) (text first rest : List ℕ) (s : State) (u : Usable) (shown more : List ℕ) (refuses : Bool) (t : State) (v : Usable) (outcome : Result Ending Fault)
      → IsFirstLine text first rest → PlaysLine (n + 1) first s u shown refuses t v → Plays (n + 1) rest t v more outcome
      → Plays n text s u (shown ++ more) (joined refuses outcome)
  breaks_off : (n : ℕ) (text first rest : List ℕ) (s : State) (u : Usable)
      → IsFirstLine text first rest → IsNoRequest first → Plays n text s u (number_line (n + 1)) (Err fault.Request)

-- a line was played, and what it shows was added; or it is no request, and its number was; or the surroundings are at fault
abbrev pub IsLinePlayed : ℕ → List ℕ → State → Usable → Option (List ℕ) → Option (List ℕ) → Result Bool Fault → State → Usable → Type 0
IsLinePlayed n text s u old new (Ok refuses) t v = (shown : List ℕ) × PlaysLine n text s u shown refuses t v × Appends old new shown
IsLinePlayed n text s u old new (Err fault.Request) t v = IsNoRequest text × Appends old new (number_line n)
IsLinePlayed n text s u old new (Err f) t v = IsOfSurroundings f

-- the answer was shown, and it is said whether it refuses
abbrev pub IsTurnShown : Answer → Option (List ℕ) → Option (List ℕ) → Bool → Type 0
IsTurnShown a old new refuses = Appends old new (answer_text a) × (refuses ≡ is_refusal a)

-- a text was played, and what it shows was added; or the surroundings are at fault
abbrev pub IsPlayed : List ℕ → State → Usable → Option (List ℕ) → Option (List ℕ) → Result Ending Fault → Type 0
IsPlayed text s u old new (Ok e) = (shown : List ℕ) × Plays 0 text s u shown (Ok e) × Appends old new shown
IsPlayed text s u old new (Err fault.Request) = (shown : List ℕ) × Plays 0 text s u shown (Err fault.Request) × Appends old new shown
IsPlayed text s u old new (Err f) = IsOfSurroundings f

-- a draft was loaded into a new desk and a text was played there; or the refusal of the load was shown; or the surroundings are at fault
abbrev pub IsPlanPlayed : ℤ → Option Contents → List ℕ → Option (List ℕ) → Option (List ℕ) → Result Ending Fault → Type 0
IsPlanPlayed at found text old new (Ok e) =
    ((named : List OpKey) × (s : State) × IsLoaded at found (accepted named) s × IsPlayed text s usable old new (Ok e))
    ⊎ ((r : Refusal) × IsLoadRefusal at found r × IsShown (refused r) old new e)
IsPlanPlayed at found text old new (Err fault.Request) =
    (named : List OpKey) × (s : State) × IsLoaded at found (accepted named) s × IsPlayed text s usable old new (Err fault.Request)
IsPlanPlayed at found text old new (Err f) = IsOfSurroundings f
