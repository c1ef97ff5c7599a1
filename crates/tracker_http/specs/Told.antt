-- What a reply tells, its status and its bytes.
use Rattle.std.specs.Prelude.{ℕ, nat_lt, if◌then◌else◌, List, map}
use Rattle.http_messages.specs.Replies.{reply}
use Rattle.http_messages.specs.Statuses.{code_of}
use Rattle.http_messages.specs.declared.statuses.Status.{Status}
use Rattle.http_messages.specs.declared.statuses.Status.TheVariants as status
use Rattle.plan_basics.specs.Refusals.{number_of}
use Rattle.plan_basics.specs.declared.Refusal.{Refusal}
use Rattle.plan_records.specs.Answer.{Answer, accepted, refused, answer_of}
use Rattle.request_json.specs.Replies.{answer_data, fault_data, ready_data, occurrence_data}
use Rattle.serde_json.specs.Data.{Data, array}
use Rattle.serde_json.specs.View.{items_of}
use Rattle.serde_json.specs.Written.{compact_text}
use Rattle.tracker_http.specs.declared.told.Told.{Told}
use Rattle.tracker_http.specs.declared.told.Told.TheVariants as told

-- refusals 1 to 24 are the request's own; the others say that the desk can't answer
abbrev pub status_of_refusal : Refusal → Status
status_of_refusal r = if nat_lt (number_of r) 25 then status.Conflict else status.ServiceUnavailable

-- the status of an answer
abbrev pub status_of_answer : Answer → Status
status_of_answer (accepted named) = status.Success
status_of_answer (refused r) = status_of_refusal r

-- the status of a reply
abbrev pub status_of : Told → Status
status_of (told.Answer reply) = status_of_answer (answer_of reply)
status_of (told.Ready rows) = status.Success
status_of (told.Occurrences rows) = status.Success
status_of (told.Fault s) = s

-- the body of a reply, as a JSON value
abbrev pub body_of : Told → Data
body_of (told.Answer reply) = answer_data (answer_of reply)
body_of (told.Ready rows) = array (items_of (map ready_data rows.items))
body_of (told.Occurrences rows) = array (items_of (map occurrence_data rows.items))
body_of (told.Fault s) = fault_data (code_of s)

-- the bytes of a reply: its body is compact
abbrev pub reply_of : Told → List ℕ
reply_of t = reply (status_of t) (compact_text (body_of t))
