-- The columns of what a forecast tells: texts stand at the left of a column, numbers at the right, of these widths.
use Rattle.std.specs.Prelude.{ℕ, Bool, true, false, List, [], ◌∷◌, ◌++◌, codes, Option, Some, None}
use Rattle.std.specs.List.{concat}
use Rattle.plan_basics.specs.KeyTexts.{operation_text}
use Rattle.plan_basics.specs.MomentTexts.{moment_text}
use Rattle.plan_basics.specs.declared.keys.OpKey.{OpKey}
use Rattle.plan_outlooks.specs.declared.rows.Cause.{Cause}
use Rattle.plan_outlooks.specs.declared.rows.Cause.TheVariants as cause
use Rattle.plan_outlooks.specs.declared.rows.OccurrenceOutlook.{OccurrenceOutlook}
use Rattle.plan_outlooks.specs.declared.rows.OperationOutlook.{OperationOutlook}
use Rattle.plan_outlooks.specs.declared.rows.PathMember.{PathMember}
use Rattle.plan_outlooks.specs.declared.rows.Standing.{Standing}
use Rattle.plan_outlooks.specs.declared.rows.Standing.TheVariants as standing
use Rattle.plan_outlooks.specs.declared.rows.Standstill.{Standstill}
use Rattle.plan_outlooks.specs.plan_reasons.specs.Texts.{reason_pieces}
use Rattle.plan_outlooks.specs.plan_reasons.specs.declared.reasons.Reason.{Reason}
use Rattle.report_lines.specs.Lines.{left, right}
use Rattle.report_lines.specs.Moments.{hyphens, latest_text}
use Rattle.status_rules.specs.Texts.{occurrence_letter, status_letter}
use Rattle.forecast_texts.specs.declared.hands.ByHand.{ByHand}
use Rattle.forecast_texts.specs.declared.hands.Deed.{Deed}
use Rattle.forecast_texts.specs.declared.hands.Deed.TheVariants as deed

-- the text of a moment, or sixteen hyphens where there is none
abbrev pub minute_text : Option ℕ → List ℕ
minute_text (Some m) = moment_text m
minute_text None = hyphens 16

-- when an operation begins; sixteen hyphens where that isn't known
abbrev pub begin_text : Bool → ℕ → List ℕ
begin_text true m = moment_text m
begin_text false m = hyphens 16

-- by how many minutes it is late; a hyphen where it isn't
abbrev pub late_text : Option ℕ → List ℕ
late_text (Some n) = right 5 n
late_text None = codes "    -"

-- by how many minutes it goes on longer than planned; a tilde where its times are only taken, since it waits for what does; else a hyphen
abbrev pub over_text : Option ℕ → Bool → List ℕ
over_text (Some n) taken = right 5 n
over_text None true = codes "    ~"
over_text None false = codes "    -"

-- an occurrence
abbrev pub occurrence_columns : OccurrenceOutlook → List (List ℕ)
occurrence_columns r =
    left 16 r.key.app
    ∷ left 16 (moment_text r.key.arrival)
    ∷ right 1 r.priority
    ∷ left 1 (occurrence_letter r.status ∷ [])
    ∷ left 16 (moment_text r.deadline)
    ∷ left 16 (minute_text r.end)
    ∷ late_text r.late
    ∷ right 5 r.never
    ∷ []

-- an operation that begins or is going
abbrev pub operation_columns : OperationOutlook → List (List ℕ)
operation_columns r =
    left 16 r.key.occurrence.app
    ∷ left 16 (moment_text r.key.occurrence.arrival)
    ∷ right 3 r.key.number
    ∷ left 4 r.workstation
    ∷ left 1 (status_letter r.status ∷ [])
    ∷ left 16 (begin_text r.is_known r.begin)
    ∷ left 16 (minute_text r.end)
    ∷ left 16 (latest_text r.latest)
    ∷ late_text r.late
    ∷ over_text r.over r.is_taken
    ∷ []

-- why an operation doesn't begin: by its own status, or by a reason as `why` gives it
abbrev pub standing_text : Standing → List ℕ
standing_text (standing.InError code) = codes "in error " ++ code
standing_text standing.Interrupted = codes "interrupted"
standing_text standing.Undecided = codes "undecided"
standing_text (standing.For r) = concat (reason_pieces r)
standing_text standing.Later = codes "begins later"

-- an operation that never begins
abbrev pub standstill_columns : Standstill → List (List ℕ)
standstill_columns r = operation_text r.key ∷ (status_letter r.status ∷ []) ∷ moment_text r.at ∷ standing_text r.standing ∷ []

-- what an operation begins after
abbrev pub cause_word : Cause → List ℕ
cause_word cause.Now = codes "now"
cause_word cause.After = codes "after"
cause_word cause.NotBefore = codes "not-before"
cause_word cause.Opens = codes "opens"
cause_word cause.Frees = codes "frees"

-- what was freed for it: what it lacked first as that minute began, as `why` tells it; a hyphen where it begins after something else
abbrev pub freed_text : Cause → Reason → List ℕ
freed_text cause.Frees r = concat (reason_pieces r)
freed_text c r = codes "-"

abbrev pub lacked_text : Cause → Option Reason → List ℕ
lacked_text c (Some r) = freed_text c r
lacked_text c None = codes "-"

-- a member of the path by which an occurrence will be late: the occurrence, the member, what it begins after, and what was freed for it
abbrev pub path_columns : PathMember → List (List ℕ)
path_columns r =
    left 16 r.late.app
    ∷ left 16 (moment_text r.late.arrival)
    ∷ left 16 r.key.occurrence.app
    ∷ left 16 (moment_text r.key.occurrence.arrival)
    ∷ right 3 r.key.number
    ∷ left 10 (cause_word r.cause)
    ∷ left 16 (begin_text r.is_known r.begin)
    ∷ left 16 (moment_text r.end)
    ∷ lacked_text r.cause r.lack
    ∷ []

-- the key of an operation, and its workstation
abbrev pub place_columns : OpKey → List ℕ → List (List ℕ)
place_columns o workstation = left 16 o.occurrence.app ∷ left 16 (moment_text o.occurrence.arrival) ∷ right 3 o.number ∷ left 4 workstation ∷ []

-- an operation that was named and isn't started, and since when
abbrev pub named_columns : OperationOutlook → List (List ℕ)
named_columns r = place_columns r.key r.workstation ++ minute_text r.since ∷ []

-- one that goes on longer than planned: since when, and by how many minutes
abbrev pub over_columns : OperationOutlook → List (List ℕ)
over_columns r = place_columns r.key r.workstation ++ minute_text r.since ∷ late_text r.over ∷ []

-- what a person has to do
abbrev pub deed_text : Deed → List ℕ
deed_text deed.Start = codes "start"
deed_text deed.StartAgain = codes "start again"
deed_text deed.Report = codes "report end"

-- what a person has to do, of which operation: from when, or by when, and its latest start
abbrev pub by_hand_columns : ByHand → List (List ℕ)
by_hand_columns r = place_columns r.key r.workstation ++ left 11 (deed_text r.deed) ∷ left 16 (minute_text r.at) ∷ latest_text r.latest ∷ []
