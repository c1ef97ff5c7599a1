-- A desk that is asked between two lines of a journal.
use Rattle.std.specs.Prelude.{◌≡◌, ◌⊎◌, ℕ, ◌≤◌, Bool, List, [], ◌++◌, codes, if◌then◌else◌, length, take, Option, Some, None}
use Rattle.std.specs.Io.KnownBytes.{Appends, Keeps}
use Rattle.sqlite.specs.Held.{state}
use Rattle.sqlite.specs.Store.{Ghosts}
use Rattle.plan_basics.specs.MomentTexts.{moment_text}
use Rattle.plan_basics.specs.Watched.{AppendsBeginning}
use Rattle.desk_journal.specs.Lines.{answer_data, line_of, request_data}
use Rattle.desk_tables.specs.Desk.{DeskState}
use Rattle.desk_tables.specs.plan_model.specs.Plan.{Plan}
use Rattle.http_messages.specs.Statuses.{code_of}
use Rattle.http_messages.specs.declared.asking.Asked.{Asked}
use Rattle.http_messages.specs.declared.asking.Asked.TheVariants as asked
use Rattle.http_messages.specs.declared.statuses.Status.TheVariants as status
use Rattle.http_messages.specs.declared.wanting.Asking.{Asking}
use Rattle.tracker_http.specs.Exchange.{seen, StaysOpen}
use Rattle.tracker_http.specs.Faulty.{IsReplyTo}
use Rattle.tracker_http.specs.Guard.{TellsWithin}
use Rattle.tracker_http.specs.Readings.{IsTurnedAway, ReadsFor, is_brief, requester_of}
use Rattle.tracker_http.specs.Told.{body_of, reply_of, status_of}
use Rattle.tracker_http.specs.declared.reading.Reading.{Reading}
use Rattle.tracker_http.specs.declared.told.Told.{Told}
use Rattle.tracker_http.specs.declared.told.Told.TheVariants as told

-- the text of a plan's clock, once one is loaded
abbrev pub clock_of : Plan → Option (List ℕ)
clock_of P = if P.loaded then Some (moment_text P.clock) else None

-- the journal's line of a request whose body was read so, at this plan; lists, by which nothing changes, have none
abbrev pub asked_lines : Plan → Option (List ℕ) → Reading → Asked → List ℕ
asked_lines P by r (asked.Report body) = line_of (request_data (clock_of P) by (codes "/report") (is_brief r body.items) body.items)
asked_lines P by r (asked.Operator body) = line_of (request_data (clock_of P) by (codes "/operator") (is_brief r body.items) body.items)
asked_lines P by r (asked.Ready name) = []
asked_lines P by r asked.Occurrences = []

-- so, with who makes it
abbrev pub request_lines : Plan → Reading → Asking → List ℕ
request_lines P r a = asked_lines P (requester_of a) r a.asked

-- the journal's line of what is told
abbrev pub told_line : Told → List ℕ
told_line x = line_of (answer_data (body_of x) (code_of (status_of x)))

-- so, of what this request is told; lists have none
abbrev pub answer_lines : Asked → Told → List ℕ
answer_lines (asked.Report body) x = told_line x
answer_lines (asked.Operator body) x = told_line x
answer_lines (asked.Ready name) x = []
answer_lines asked.Occurrences x = []

-- the desk is asked and tells this, within the clock's guard, and its store stays open
abbrev pub Takes : {S : Type 0} → Ghosts S → Option ℕ → Asked → DeskState S → Told → DeskState S → Type 0
Takes g ahead a d x e = TellsWithin ahead a (seen d) x (seen e) × StaysOpen (state g d.conn) (state g e.conn) x

-- what is written of a request that is wanted, and what the journal takes: it is turned away, and then nothing changes and no line is taken; or what the desk tells, also of what is wrong with an operator's body, and both lines
abbrev pub Writes : {S : Type 0} → Ghosts S → Option ℕ → Bool → Asking → DeskState S → List ℕ → List ℕ → DeskState S → Type 0
Writes g ahead bound a d output lines e = (r : Reading) × ReadsFor a.asked r × (
    (IsTurnedAway bound a r × (output ≡ reply_of (told.Fault status.Forbidden)) × (e ≡ d) × (lines ≡ []))
    ⊎ ((¬ IsTurnedAway bound a r) × (x : Told) × Takes g ahead a.asked d x e × IsReplyTo a.asked r x output × (lines ≡ request_lines d.plan r a ++ answer_lines a.asked x)))

-- a request that was read so has no reply: nothing was asked, and the journal has a beginning of its line at most; or it acted as it was told, and its line is whole
abbrev pub ReadBreaksOff : {S : Type 0} → Ghosts S → Option ℕ → Asking → Reading → DeskState S → DeskState S → Option (List ℕ) → Option (List ℕ) → Type 0
ReadBreaksOff g ahead a r d e old new =
    ((e ≡ d) × AppendsBeginning old new (request_lines d.plan r a))
    ⊎ ((x : Told) × Takes g ahead a.asked d x e × ((n : ℕ) × (n ≤ length (answer_lines a.asked x)) × Appends old new (request_lines d.plan r a ++ take n (answer_lines a.asked x))))

-- a request that was wanted has no reply: nothing was asked and no line taken; or so, and it wasn't turned away
abbrev pub AskedBreaksOff : {S : Type 0} → Ghosts S → Option ℕ → Bool → Asking → DeskState S → DeskState S → Option (List ℕ) → Option (List ℕ) → Type 0
AskedBreaksOff g ahead bound a d e old new =
    ((e ≡ d) × Keeps old new)
    ⊎ ((r : Reading) × ReadsFor a.asked r × (¬ IsTurnedAway bound a r) × ReadBreaksOff g ahead a r d e old new)
