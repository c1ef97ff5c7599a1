-- An exchange of a desk that is served for good: a request may look at something too, and the journal has its lines.
use Rattle.std.specs.Prelude.{◌≡◌, ◌⊎◌, ℕ, List, [], ◌++◌, Option, IfSome, IsSomeAnd, OnOk, Result, Ok, Err}
use Rattle.std.specs.Io.KnownBytes.{Keeps, Appends}
use Rattle.sqlite.specs.Store.{Ghosts}
use Rattle.desk_serving.specs.Shown.{Shows}
use Rattle.tracker_http.specs.Told.{reply_of}
use Rattle.tracker_http.specs.declared.told.Told.TheVariants as told
use Rattle.http_messages.specs.Looks.{AnswersWanted}
use Rattle.http_messages.specs.Foreign.{IsForeign}
use Rattle.http_messages.specs.Tests.{IsRequestIn, Request}
use Rattle.http_messages.specs.Tests.{status_of as status_of_test}
use Rattle.http_messages.specs.declared.asking.Rejection.{Rejection}
use Rattle.http_messages.specs.declared.wanting.Asking.{Asking}
use Rattle.http_messages.specs.declared.statuses.Status.TheVariants as status
use Rattle.http_messages.specs.declared.wanting.Wanted.{Wanted}
use Rattle.http_messages.specs.declared.wanting.Wanted.TheVariants as wanted
use Rattle.plan_basics.specs.Watched.{AppendsBeginning}
use Rattle.tracker_http.specs.Journalled.{request_lines, AskedBreaksOff}
use Rattle.tracker_http.specs.Journalled.{Writes as AskedWrites}
use Rattle.tracker_http.specs.Readings.{ReadsFor}
use Rattle.tracker_http.specs.declared.reading.Reading.{Reading}
use Rattle.tracker_http.specs.declared.replying.ServeFault.{ServeFault}
use Rattle.tracker_http.specs.declared.replying.ServeFault.TheVariants as fault
use Rattle.tracker_http.specs.desk_tables.specs.Desk.{DeskState}
use Rattle.desk_serving.specs.declared.served.TheConstants.{MOST_SERVED_BYTES}
use Rattle.desk_serving.specs.declared.terms.Terms.{Terms}

-- what the request in the input wants, where that is known
abbrev pub IsWanted : Option (List ℕ) → Result Wanted Rejection → Type 0
IsWanted known found = IfSome known (λ input. AnswersWanted MOST_SERVED_BYTES input found)

-- what is written and what the journal takes: where the desk is wanted, what it tells and both lines, or that the request is turned away; else what is shown, or the first test that fails, and then nothing changes and no line is taken
abbrev pub Writes : {S : Type 0} → Ghosts S → Terms → Result Wanted Rejection → DeskState S → List ℕ → List ℕ → DeskState S → Type 0
Writes g terms (Ok (wanted.Asked a)) d output lines e = AskedWrites g terms.ahead terms.bound a d output lines e
Writes g terms (Ok (wanted.Look l)) d output lines e = Shows terms l d output × (e ≡ d) × (lines ≡ [])
Writes g terms (Err test) d output lines e = (output ≡ reply_of (told.Fault (status_of_test test))) × (e ≡ d) × (lines ≡ [])

-- the input of a connection, where it is known, leads to this output and these lines, and from this desk to that one
abbrev pub Serves : {S : Type 0} → Ghosts S → Terms → Option (List ℕ) → DeskState S → List ℕ → List ℕ → DeskState S → Type 0
Serves g terms known d output lines e = (found : Result Wanted Rejection) × IsWanted known found × Writes g terms found d output lines e

-- there is no reply: nothing was asked and no line taken; or a request that was wanted has none
abbrev pub BreaksOff : {S : Type 0} → Ghosts S → Terms → Option (List ℕ) → DeskState S → DeskState S → Option (List ℕ) → Option (List ℕ) → Type 0
BreaksOff g terms known d e old new =
    ((e ≡ d) × Keeps old new)
    ⊎ ((a : Asking) × IsWanted known (Ok (wanted.Asked a)) × AskedBreaksOff g terms.ahead terms.bound a d e old new)

-- why there is no reply, and the journal before and after: where the reader failed, nothing was asked
abbrev pub Unanswered : {S : Type 0} → Ghosts S → Terms → Option (List ℕ) → ServeFault → DeskState S → DeskState S → Option (List ℕ) → Option (List ℕ) → Type 0
Unanswered g terms known fault.Reader d e old new = (e ≡ d) × Keeps old new
Unanswered g terms known fault.Writer d e old new = ⊥
Unanswered g terms known fault.Memory d e old new = BreaksOff g terms known d e old new
Unanswered g terms known fault.Journal d e old new = BreaksOff g terms known d e old new

-- an exchange leads to an output and to lines of which these are so
abbrev pub Exchanges : {S : Type 0} → Ghosts S → Terms → Option (List ℕ) → DeskState S → DeskState S → (List ℕ → Type 0) → (List ℕ → Type 0) → Type 0
Exchanges g terms known d e IsWritten AreTaken = (output : List ℕ) × (lines : List ℕ) × Serves g terms known d output lines e × IsWritten output × AreTaken lines

-- how an exchange ends: by what the reader held, if that is known, the desk before and after, the client's bytes before and after, and the journal's
abbrev pub Ends : {S : Type 0} → {U : Type 0} → Ghosts S → Terms → Result U ServeFault → Option (List ℕ) → DeskState S → DeskState S → Option (List ℕ) × Option (List ℕ) → Option (List ℕ) × Option (List ℕ) → Type 0
-- the whole reply is written, and the lines are taken
Ends g terms (Ok _) known d e client journal = Exchanges g terms known d e (Appends client.0 client.1) (Appends journal.0 journal.1)
-- a beginning of the reply is written, the lines are taken, and the request acted as the reply says
Ends g terms (Err fault.Writer) known d e client journal = Exchanges g terms known d e (AppendsBeginning client.0 client.1) (Appends journal.0 journal.1)
-- nothing is written
Ends g terms (Err f) known d e client journal = Keeps client.0 client.1 × Unanswered g terms known f d e journal.0 journal.1

-- the input of a connection, where it is known, is a foreign request's
abbrev pub IsForeignInput : Option (List ℕ) → Type 0
IsForeignInput known = IsSomeAnd known (λ input. (request : Request) × IsRequestIn input request × IsForeign request)

-- a foreign request is told just that: the desk is as it was, and so is its journal
abbrev pub EndsForeign : {S : Type 0} → {U F : Type 0} → Result U F → DeskState S → DeskState S → Option (List ℕ) × Option (List ℕ) → Option (List ℕ) × Option (List ℕ) → Type 0
EndsForeign result d e client journal = (e ≡ d) × Keeps journal.0 journal.1 × OnOk result (Appends client.0 client.1 (reply_of (told.Fault status.Forbidden)))

-- whatever acted stands in the journal: where the desk isn't as it was, the line of the request that is wanted, as its body was read, is there, whole
abbrev pub Stands : {S : Type 0} → Option (List ℕ) → DeskState S → DeskState S → Option (List ℕ) → Option (List ℕ) → Type 0
Stands known d e old new = (e ≡ d) ⊎ ((a : Asking) × IsWanted known (Ok (wanted.Asked a)) × ((r : Reading) × ReadsFor a.asked r × ((more : List ℕ) × Appends old new (request_lines d.plan r a ++ more))))
