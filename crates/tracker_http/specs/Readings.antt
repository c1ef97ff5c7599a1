-- What a body says, read for its path, and what is told by that alone.
use Rattle.std.specs.Prelude.{◌≡◌, ◌≢◌, ℕ, nat_lt, Bool, true, false, List, length, Option, Some, option_map, string_bytes}
use Rattle.http_messages.specs.declared.asking.Asked.{Asked}
use Rattle.http_messages.specs.declared.asking.Asked.TheVariants as asked
use Rattle.http_messages.specs.declared.wanting.Asking.{Asking}
use Rattle.plan_records.specs.declared.Request.{Request}
use Rattle.request_json.specs.Requests.{ReadsAsRequest, ReadsAsReport}
use Rattle.request_json.specs.declared.NumberedRequest.{NumberedRequest}
use Rattle.tracker_http.specs.declared.reading.Reading.{Reading}
use Rattle.tracker_http.specs.declared.reading.Reading.TheVariants as reading
use Rattle.tracker_http.specs.declared.reading.TheConstants.{MOST_WHOLE_BYTES}

-- read as a report, a body is one, or none
abbrev pub ReadsForReport : List ℕ → Reading → Type 0
ReadsForReport body (reading.Report n) = ReadsAsReport body n
ReadsForReport body reading.Nothing = (n : NumberedRequest) → ¬ ReadsAsReport body n
ReadsForReport body _ = ⊥

-- read as an operator's request, it is one, or none
abbrev pub ReadsForOperator : List ℕ → Reading → Type 0
ReadsForOperator body (reading.Operator q) = ReadsAsRequest body q
ReadsForOperator body reading.Nothing = (q : Request) → ¬ ReadsAsRequest body q
ReadsForOperator body _ = ⊥

-- so, by its path; a list has no body
abbrev pub ReadsFor : Asked → Reading → Type 0
ReadsFor (asked.Report body) r = ReadsForReport body.items r
ReadsFor (asked.Operator body) r = ReadsForOperator body.items r
ReadsFor (asked.Ready name) r = r ≡ reading.Nothing
ReadsFor asked.Occurrences r = r ≡ reading.Nothing

-- a long body that is no request is told in brief
abbrev pub is_brief : Reading → List ℕ → Bool
is_brief reading.Nothing body = nat_lt MOST_WHOLE_BYTES (length body)
is_brief _ body = false

-- who makes a request, where that is known
abbrev pub requester_of : Asking → Option (List ℕ)
requester_of a = option_map string_bytes a.by

-- a report is in another's name: its tracker isn't who makes it
abbrev pub IsAnothers : Option (List ℕ) → Reading → Type 0
IsAnothers by (reading.Report n) = by ≢ Some n.tracker
IsAnothers by _ = ⊥

-- a request is turned away: where trackers are bound to their names, a report in another's
abbrev pub IsTurnedAway : Bool → Asking → Reading → Type 0
IsTurnedAway bound a r = (bound ≡ true) × IsAnothers (requester_of a) r
