-- What `play` makes of a journal, line by line, and what it shows.
use Rattle.std.specs.Prelude.{◌≡◌, ◌≢◌, ◌⊎◌, ℕ, ◌+◌, ◌-◌, List, [], ◌++◌, length, slice_get, Option, Some, None, Result, Ok, Err, codes, decimal, ℤ}
use Rattle.std.specs.Io.KnownBytes.{Appends}
use Rattle.plan_basics.specs.declared.Refusal.{Refusal}
use Rattle.plan_basics.specs.declared.keys.OpKey.{OpKey}
use Rattle.plan_records.specs.plan_model.specs.Contents.{Contents}
use Rattle.plan_records.specs.Answer.{accepted, refused}
use Rattle.plan_records.specs.Run.{State, usable}
use Rattle.desk_journal.specs.Entries.{IsEntry}
use Rattle.desk_journal.specs.Lines.{line_end}
use Rattle.desk_journal.specs.declared.entries.Entry.{Entry}
use Rattle.desk_journal.specs.declared.entries.Entry.TheVariants as entry
use Rattle.http_messages.specs.declared.asking.Asked.{Asked}
use Rattle.http_messages.specs.declared.asking.Asked.TheVariants as asked
use Rattle.tracker_http.specs.Exchange.{Seen}
use Rattle.tracker_http.specs.Guard.{TellsWithin}
use Rattle.tracker_http.specs.Journalled.{told_line}
use Rattle.tracker_http.specs.declared.told.Told.{Told}
use Rattle.command_answers.specs.Answers.{IsShown, line}
use Rattle.command_answers.specs.Statuses.{IsOfSurroundings}
use Rattle.command_answers.specs.declared.endings.Ending.{Ending}
use Rattle.command_answers.specs.declared.endings.Ending.TheVariants as ending
use Rattle.command_answers.specs.declared.endings.Fault.{Fault}
use Rattle.command_answers.specs.declared.endings.Fault.TheVariants as fault
use Rattle.command_answers.specs.Lines.{IsFirstLine, number_line}
use Rattle.command_desks.specs.Loaded.{IsLoadRefusal, IsLoaded}
use Rattle.request_commands.specs.declared.replaying.Outcome.{Outcome}
use Rattle.request_commands.specs.declared.replaying.Outcome.TheVariants as outcome
use Rattle.request_commands.specs.declared.replaying.Step.{Step}
use Rattle.request_commands.specs.declared.replaying.Step.TheVariants as step
use Rattle.request_commands.specs.declared.replaying.Waiting.{Waiting}

-- the lines of a journal and, behind them, those of one more file: its last line ends, also where a stop cut it short
abbrev pub joined : List ℕ → List ℕ → List ℕ
joined before file = before ++ file ++ line_end (slice_get file (length file - 1))

-- what is shown of a request that may have acted: the number of its line
abbrev pub acted_line : ℕ → List ℕ
acted_line n = line (decimal n ++ codes " may have acted")

-- what is shown where no answer's line comes for the request that waits for it, if one does
abbrev pub unanswered : Option Waiting → List ℕ
unanswered None = []
unanswered (Some w) = acted_line w.number

-- at which line the answers part
abbrev pub place_line : ℕ → List ℕ
place_line n = line (decimal n ++ codes " parts")

-- what is shown there: the number of the answer's line, and the line that this desk's answer would be
abbrev pub parting_lines : ℕ → Told → List ℕ
parting_lines n x = place_line n ++ told_line x

-- what is shown at the end of a journal whose answers are the same: how many lines it has
abbrev pub same_line : ℕ → List ℕ
same_line n = line (decimal n ++ codes " lines, the answers are the same")

-- what an answer's status tells of its request: 200 accepts, 503 tells of a store that failed, any other refuses
abbrev pub IsOutcome : ℕ → Outcome → Type 0
IsOutcome status outcome.Accepted = status ≡ 200
IsOutcome status outcome.Failed = status ≡ 503
IsOutcome status outcome.Refused = (status ≢ 200) × (status ≢ 503)

-- an answer's line is the one of what is told here, and nothing is shown; or the answers part there
abbrev pub Compares : ℕ → List ℕ → Told → List ℕ → Step → Type 0
Compares n text x shown e =
    ((told_line x ≡ line text) × (shown ≡ []) × (e ≡ step.GoesOn None))
    ⊎ ((told_line x ≢ line text) × (shown ≡ parting_lines n x) × (e ≡ step.Parts))

-- the answer's line of this number and status comes for a request: where it was accepted, it is carried out, and the answers are compared; where its store failed, it may have acted; where it was refused, nothing is carried out
abbrev pub TakesAnswer : ℕ → Waiting → ℕ → List ℕ → Seen → List ℕ → Step → Seen → Type 0
TakesAnswer n w status text s shown e t =
    (IsOutcome status outcome.Accepted × (x : Told) × TellsWithin None w.asked s x t × Compares n text x shown e)
    ⊎ ((IsOutcome status outcome.Failed × (shown ≡ acted_line w.number) × (e ≡ step.GoesOn None) × (t ≡ s))
    ⊎ (IsOutcome status outcome.Refused × (shown ≡ []) × (e ≡ step.GoesOn None) × (t ≡ s)))

-- a request comes in the line of this number, and waits for its answer's; the one that waited before it may have acted
abbrev pub TakesRequest : ℕ → Option Waiting → Asked → Seen → List ℕ → Step → Seen → Type 0
TakesRequest n w a s shown e t = (shown ≡ unanswered w) × (e ≡ step.GoesOn (Some (record { number = n; asked = a }))) × (t ≡ s)

-- what the line of this number says is taken, where this request waits for an answer's line, if one does. A line that was cut short is passed over
abbrev pub Takes : ℕ → Option Waiting → List ℕ → Entry → Seen → List ℕ → Step → Seen → Type 0
Takes n w text (entry.Report body) s shown e t = TakesRequest n w (asked.Report body) s shown e t
Takes n w text (entry.Operator body) s shown e t = TakesRequest n w (asked.Operator body) s shown e t
Takes n (Some w) text (entry.Answer status) s shown e t = TakesAnswer n w status text s shown e t
Takes n None text (entry.Answer status) s shown e t = ⊥
Takes n w text entry.Cut s shown e t = (shown ≡ []) × (e ≡ step.GoesOn w) × (t ≡ s)
Takes n w text entry.Other s shown e t = ⊥

-- so, of the line
abbrev pub TakesLine : ℕ → Option Waiting → List ℕ → Seen → List ℕ → Step → Seen → Type 0
TakesLine n w text s shown e t = (x : Entry) × IsEntry text x × Takes n w text x s shown e t

-- what a line says has no place there: it is no line of a journal, or an answer for which no request waits
abbrev pub HasNoPlace : Option Waiting → Entry → Type 0
HasNoPlace w entry.Other = Unit {0}
HasNoPlace None (entry.Answer status) = Unit {0}
HasNoPlace w x = ⊥

-- so, of the line
abbrev pub IsMisplaced : Option Waiting → List ℕ → Type 0
IsMisplaced w text = (x : Entry) × IsEntry text x × HasNoPlace w x

-- after so many lines, of which the last request waits for its answer's line or none does, the lines of a journal are taken to their end, to the first answer that parts, or to the first line that has no place; all that is shown is this
pub data Replays : ℕ → Option Waiting → List ℕ → Seen → List ℕ → Result Ending Fault → Type 0 where
  no_more : (n : ℕ) (w : Option Waiting) (s : Seen) → Replays n w [] s (unanswered w ++ same_line n) (Ok ending.Done)
  goes_on : (n : ℕ) (w : Option Waiting) (text first rest : List ℕ) (s : Seen) (shown more : List ℕ) (v : Option Waiting) (t : Seen) (outcome : Result Ending Fault)
      → IsFirstLine text first rest → TakesLine (n + 1) w first s shown (step.GoesOn v) t → Replays (n + 1) v rest t more outcome
      → Replays n w text s (shown ++ more) outcome
  parts : (n : ℕ) (w : Option Waiting) (text first rest : List ℕ) (s : Seen) (shown : List ℕ) (t : Seen)
      → IsFirstLine text first rest → TakesLine (n + 1) w first s shown step.Parts t → Replays n w text s shown (Ok ending.Refused)
  breaks_off : (n : ℕ) (w : Option Waiting) (text first rest : List ℕ) (s : Seen)
      → IsFirstLine text first rest → IsMisplaced w first → Replays n w text s (number_line (n + 1)) (Err fault.Request)

-- what a line says was taken, and what it shows was added; or it has no place, and the line's number was; or the surroundings are at fault
abbrev pub IsEntryTaken : ℕ → Option Waiting → List ℕ → Entry → Seen → Option (List ℕ) → Option (List ℕ) → Result Step Fault → Seen → Type 0
IsEntryTaken n w text x s old new (Ok e) t = (shown : List ℕ) × Takes n w text x s shown e t × Appends old new shown
IsEntryTaken n w text x s old new (Err fault.Request) t = HasNoPlace w x × Appends old new (number_line n)
IsEntryTaken n w text x s old new (Err f) t = IsOfSurroundings f

-- so, of the line
abbrev pub IsLineTaken : ℕ → Option Waiting → List ℕ → Seen → Option (List ℕ) → Option (List ℕ) → Result Step Fault → Seen → Type 0
IsLineTaken n w text s old new (Ok e) t = (shown : List ℕ) × TakesLine n w text s shown e t × Appends old new shown
IsLineTaken n w text s old new (Err fault.Request) t = IsMisplaced w text × Appends old new (number_line n)
IsLineTaken n w text s old new (Err f) t = IsOfSurroundings f

-- a journal was taken, and what it shows was added; or the surroundings are at fault
abbrev pub IsReplayed : List ℕ → Seen → Option (List ℕ) → Option (List ℕ) → Result Ending Fault → Type 0
IsReplayed text s old new (Ok e) = (shown : List ℕ) × Replays 0 None text s shown (Ok e) × Appends old new shown
IsReplayed text s old new (Err fault.Request) = (shown : List ℕ) × Replays 0 None text s shown (Err fault.Request) × Appends old new shown
IsReplayed text s old new (Err f) = IsOfSurroundings f

-- what is seen of a new desk with this state
abbrev pub newly_seen : State → Seen
newly_seen s = record { state = s; usable = usable }

-- a draft was loaded into a new desk and a journal was taken there; or the refusal of the load was shown; or the surroundings are at fault
abbrev pub IsPlanReplayed : ℤ → Option Contents → List ℕ → Option (List ℕ) → Option (List ℕ) → Result Ending Fault → Type 0
IsPlanReplayed at found text old new (Ok e) =
    ((named : List OpKey) × (s : State) × IsLoaded at found (accepted named) s × IsReplayed text (newly_seen s) old new (Ok e))
    ⊎ ((r : Refusal) × IsLoadRefusal at found r × IsShown (refused r) old new e)
IsPlanReplayed at found text old new (Err fault.Request) =
    (named : List OpKey) × (s : State) × IsLoaded at found (accepted named) s × IsReplayed text (newly_seen s) old new (Err fault.Request)
IsPlanReplayed at found text old new (Err f) = IsOfSurroundings f
