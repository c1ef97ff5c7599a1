-- Replies as JSON values. Members stand in the order of their names, as they are written.
use Rattle.std.specs.Prelude.{ℕ, ℤ, pos, negsuc, nat_lt, if◌then◌else◌, List, [], ◌∷◌, map, replicate, codes}
use Rattle.plan_basics.specs.declared.keys.OpKey.{OpKey}
use Rattle.plan_basics.specs.KeyTexts.{occurrence_text, operation_text}
use Rattle.plan_basics.specs.MomentTexts.{moment_text}
use Rattle.plan_basics.specs.Refusals.{number_of, name_of}
use Rattle.plan_records.specs.Answer.{Answer, accepted, refused}
use Rattle.serde_json.specs.Data.{Data, boolean, string, array, object, member, no_members}
use Rattle.serde_json.specs.View.{items_of}
use Rattle.status_rules.specs.Texts.{status_letter, occurrence_letter}
use Rattle.request_json.specs.Intervals.{whole}
use Rattle.request_json.specs.declared.rows.OccurrenceRow.{OccurrenceRow}
use Rattle.request_json.specs.declared.rows.ReadyRow.{ReadyRow}

-- the key of a named operation
abbrev pub key_data : OpKey → Data
key_data key = string (operation_text key)

-- an answer: the keys that are named, in their order; or the refusal's name and number
abbrev pub answer_data : Answer → Data
answer_data (accepted named) = object (member (codes "named") (array (items_of (map key_data named))) no_members)
answer_data (refused r) = object (member (codes "name") (string (name_of r)) (member (codes "refusal") (whole (number_of r)) no_members))

-- a fault of the exchange: its status
abbrev pub fault_data : ℕ → Data
fault_data status = object (member (codes "error") (whole status) no_members)

-- a signed minute: the text of its moment, or sixteen hyphens where it is none
abbrev pub minute_shown : ℤ → List ℕ
minute_shown (pos m) = if nat_lt m 52596000 then moment_text m else replicate 16 45
minute_shown (negsuc n) = replicate 16 45

-- a row of a ready list
abbrev pub ready_data : ReadyRow → Data
ready_data row =
    object (member (codes "duration") (whole row.duration)
    (member (codes "held") (boolean row.held)
    (member (codes "latest") (string (minute_shown row.latest))
    (member (codes "op") (string (operation_text row.op))
    (member (codes "priority") (whole row.priority)
    (member (codes "status") (string (status_letter row.status ∷ [])) no_members))))))

-- a row of the list of occurrences
abbrev pub occurrence_data : OccurrenceRow → Data
occurrence_data row =
    object (member (codes "deadline") (string (moment_text row.deadline))
    (member (codes "occ") (string (occurrence_text row.occurrence))
    (member (codes "priority") (whole row.priority)
    (member (codes "status") (string (occurrence_letter row.status ∷ [])) no_members))))
