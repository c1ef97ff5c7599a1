-- An exchange: from the bytes of a connection, known or not, and a desk to the bytes of the reply and the desk after it.
use Rattle.std.specs.Prelude.{◌≡◌, ◌⊎◌, ℕ, Bool, false, List, Option, IfSome, IsTrue, Result, Ok, Err}
use Rattle.std.specs.Io.KnownBytes.{Keeps, Appends}
use Rattle.sqlite.specs.Held.{state}
use Rattle.sqlite.specs.State.{State as StoreState, HasCleanDisk}
use Rattle.sqlite.specs.Store.{Ghosts}
use Rattle.http_messages.specs.Tests.{status_of as status_of_test}
use Rattle.http_messages.specs.Tests as head
use Rattle.http_messages.specs.declared.asking.Asked.{Asked}
use Rattle.http_messages.specs.declared.asking.Asked.TheVariants as asked
use Rattle.http_messages.specs.declared.asking.Rejection.{Rejection}
use Rattle.http_messages.specs.declared.statuses.Status.TheVariants as status
use Rattle.plan_basics.specs.Watched.{AppendsBeginning}
use Rattle.plan_records.specs.Answer.{answer_of}
use Rattle.plan_records.specs.Run.{State, Call, plain, numbered, Usable}
use Rattle.plan_records.specs.Run as run
use Rattle.plan_records.specs.declared.Request.{Request}
use Rattle.desk_tables.specs.Desk.{DeskState, state_of, usability}
use Rattle.desk_tables.specs.Shut.{may_have_shut}
use Rattle.request_json.specs.Requests.{ReadsAsRequest, ReadsAsReport}
use Rattle.request_json.specs.declared.NumberedRequest.{NumberedRequest}
use Rattle.request_json.specs.declared.WireFault.TheVariants as fault
use Rattle.request_json.specs.declared.WireFault.{WireFault}
use Rattle.tracker_http.specs.Lists.{TellsReady, TellsOccurrences, TellsList}
use Rattle.tracker_http.specs.Told.{reply_of}
use Rattle.tracker_http.specs.declared.told.Told.{Told}
use Rattle.tracker_http.specs.declared.told.Told.TheVariants as told

-- what is seen of a desk: its plan and receipts, and whether it carries out calls
pub record Seen : Type 0 where
  pub state : State
  pub usable : Usable

-- what is seen of this desk
abbrev pub seen : {S : Type 0} → DeskState S → Seen
seen d = record { state = state_of d; usable = usability d.is_usable }

-- the desk is called, and its answer is told
abbrev pub TellsAnswer : Call → Seen → Told → Seen → Type 0
TellsAnswer c s (told.Answer reply) t = run.Answers s.state s.usable c (answer_of reply) t.state t.usable
TellsAnswer c s _ t = ⊥

-- the body is no request: this is told, and nothing changes
abbrev pub TellsBadBody : Seen → Told → Seen → Type 0
TellsBadBody s x t = (x ≡ told.Fault status.BadRequest) × (t ≡ s)

-- the call that a report makes: the text that is kept of it is the whole body
abbrev pub report_call : NumberedRequest → List ℕ → Call
report_call n body = numbered (record { tracker = n.tracker; number = n.number; text = body; request = n.request })

-- a report is made, if the body is one
abbrev pub TellsReport : List ℕ → Seen → Told → Seen → Type 0
TellsReport body s x t =
    ((n : NumberedRequest) × ReadsAsReport body n × TellsAnswer (report_call n body) s x t)
    ⊎ (((n : NumberedRequest) → ¬ ReadsAsReport body n) × TellsBadBody s x t)

-- an operator's request is made, if the body is one
abbrev pub TellsOperator : List ℕ → Seen → Told → Seen → Type 0
TellsOperator body s x t =
    ((q : Request) × ReadsAsRequest body q × TellsAnswer (plain q) s x t)
    ⊎ (((q : Request) → ¬ ReadsAsRequest body q) × TellsBadBody s x t)

-- what a request in good form is told, and the desk after it; lists change nothing
abbrev pub Tells : Asked → Seen → Told → Seen → Type 0
Tells (asked.Report body) s x t = TellsReport body.items s x t
Tells (asked.Operator body) s x t = TellsOperator body.items s x t
Tells (asked.Ready name) s x t = TellsList (TellsReady name.items) s.usable s.state.plan x × (t ≡ s)
Tells asked.Occurrences s x t = TellsList TellsOccurrences s.usable s.state.plan x × (t ≡ s)

-- what a request is told: by what it asks for, or by the first test that it fails; then nothing changes
abbrev pub Replies : Result Asked Rejection → Seen → Told → Seen → Type 0
Replies (Ok a) s x t = Tells a s x t
Replies (Err test) s x t = (x ≡ told.Fault (status_of_test test)) × (t ≡ s)

-- what is told may have shut the store: an answer of the desk that may have
abbrev pub told_may_have_shut : Told → Bool
told_may_have_shut (told.Answer reply) = may_have_shut (answer_of reply)
told_may_have_shut _ = false

-- where the disk has returned what was written, a store that was open is, unless what is told may have shut it
abbrev pub StaysOpen : StoreState → StoreState → Told → Type 0
StaysOpen old new x = HasCleanDisk new → IsTrue old.is_open → told_may_have_shut x ≡ false → IsTrue new.is_open

-- this is told of a request: of what it asks for, or of the first test that it fails; where the input is known, that is what the input says
abbrev pub IsTold : Option (List ℕ) → Seen → Told → Seen → Type 0
IsTold known s x t = (found : Result Asked Rejection) × IfSome known (λ input. head.Answers input found) × Replies found s x t

-- a connection's input, where it is known, leads to this output, and from this desk to that one: what is told is written, and the store stays open
abbrev pub Exchange : {S : Type 0} → Ghosts S → Option (List ℕ) → DeskState S → List ℕ → DeskState S → Type 0
Exchange g known d output e = (x : Told) × IsTold known (seen d) x (seen e) × StaysOpen (state g d.conn) (state g e.conn) x × (output ≡ reply_of x)

-- it leads to an output of which this is so
abbrev pub Exchanges : {S : Type 0} → Ghosts S → Option (List ℕ) → DeskState S → DeskState S → (List ℕ → Type 0) → Type 0
Exchanges g known d e IsWritten = (output : List ℕ) × Exchange g known d output e × IsWritten output

-- how an exchange ends: by what the reader held, if that is known, the desk before and after, and the writer's bytes before and after
abbrev pub Ends : {S : Type 0} → {U : Type 0} → Ghosts S → Result U WireFault → Option (List ℕ) → DeskState S → DeskState S → Option (List ℕ) → Option (List ℕ) → Type 0
-- the whole reply is written
Ends g (Ok _) known d e old new = Exchanges g known d e (Appends old new)
-- nothing is written, and nothing changes
Ends g (Err fault.Reader) known d e old new = (e ≡ d) × Keeps old new
-- a beginning of the reply is written, and the request acted as the reply says
Ends g (Err fault.Writer) known d e old new = Exchanges g known d e (AppendsBeginning old new)
-- nothing is written; the request acted as some reply says, or nothing changes
Ends g (Err fault.Memory) known d e old new = Keeps old new × ((e ≡ d) ⊎ Exchanges g known d e (λ _. Unit {0}))
