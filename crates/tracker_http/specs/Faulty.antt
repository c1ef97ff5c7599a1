-- The reply to a body that is to be a report or an operator's request and is none: it tells what is wrong with it.
use Rattle.std.specs.Prelude.{◌≡◌, ◌↔◌, ℕ, List, ◌++◌, map, Contains, codes}
use Rattle.std.specs.List.{AllZip}
use Rattle.http_messages.specs.Replies.{reply}
use Rattle.http_messages.specs.Statuses.{code_of}
use Rattle.http_messages.specs.declared.asking.Asked.{Asked}
use Rattle.http_messages.specs.declared.asking.Asked.TheVariants as asked
use Rattle.http_messages.specs.declared.statuses.Status.TheVariants as status
use Rattle.request_json.specs.Intervals.{whole}
use Rattle.request_json.specs.ReportFaults.{IsReportFault}
use Rattle.request_json.specs.RequestFaults.{IsRequestFault, place_text}
use Rattle.request_json.specs.declared.faults.finding.RequestFault.{RequestFault}
use Rattle.serde_json.specs.Data.{Data, array, member, no_members, object, string}
use Rattle.serde_json.specs.View.{items_of}
use Rattle.serde_json.specs.Written.{compact_text}
use Rattle.tracker_http.specs.Told.{reply_of}
use Rattle.tracker_http.specs.declared.reading.Reading.{Reading}
use Rattle.tracker_http.specs.declared.reading.Reading.TheVariants as reading
use Rattle.tracker_http.specs.declared.told.Told.{Told}

-- a line that tells a fault: the member that it is of, a colon, and what is wrong
abbrev pub TellsFault : RequestFault → List ℕ → Type 0
TellsFault f line = (wrong : List ℕ) × (line ≡ place_text f ++ codes ": " ++ wrong)

-- all that is wrong with a body, and nothing else, a line for each
pub record AreFaultLines (IsFault : RequestFault → Type 0) (lines : List (List ℕ)) : Type 0 where
  pub faults : List RequestFault
  pub exactly : (f : RequestFault) → Contains faults f ↔ IsFault f
  pub told : AllZip TellsFault faults lines

-- a fault of the exchange, with what is wrong
abbrev pub faulty_data : ℕ → List Data → Data
faulty_data code lines = object (member (codes "error") (whole code) (member (codes "faults") (array (items_of lines)) no_members))

-- the bytes of a reply that has these lines
abbrev pub faulty_bytes : List (List ℕ) → List ℕ
faulty_bytes lines = reply status.BadRequest (compact_text (faulty_data (code_of status.BadRequest) (map string lines)))

-- those of one that tells what is wrong with a body
abbrev pub IsFaultyReply : (RequestFault → Type 0) → List ℕ → Type 0
IsFaultyReply IsFault output = (lines : List (List ℕ)) × AreFaultLines IsFault lines × (output ≡ faulty_bytes lines)

-- what is written of what is told to a request that was read so: of a body that is no report, or no operator's request, also what is wrong with it
abbrev pub IsReplyTo : Asked → Reading → Told → List ℕ → Type 0
IsReplyTo (asked.Report body) reading.Nothing x output = IsFaultyReply (IsReportFault body.items) output
IsReplyTo (asked.Operator body) reading.Nothing x output = IsFaultyReply (IsRequestFault body.items) output
IsReplyTo a r x output = output ≡ reply_of x
