-- The rows of each table.
use Rattle.std.specs.Prelude.{ℕ, ◌-◌, pos, Bool, true, false, List, [], ◌∷◌, ◌++◌, codes, cond, decimal, nat_le, Option, Some, None}
use Rattle.plan_basics.specs.KeyTexts.{occurrence_text, operation_text}
use Rattle.plan_basics.specs.Keys.{Name}
use Rattle.plan_basics.specs.declared.keys.OccKey.{OccKey}
use Rattle.plan_basics.specs.declared.keys.OpKey.{OpKey}
use Rattle.forecast_texts.specs.Columns.{deed_text, standing_text}
use Rattle.forecast_texts.specs.declared.hands.ByHand.{ByHand}
use Rattle.forecast_texts.specs.plan_outlooks.specs.declared.rows.OccurrenceOutlook.{OccurrenceOutlook}
use Rattle.forecast_texts.specs.plan_outlooks.specs.declared.rows.OperationOutlook.{OperationOutlook}
use Rattle.forecast_texts.specs.plan_outlooks.specs.declared.rows.Outlooks.{Outlooks}
use Rattle.forecast_texts.specs.plan_outlooks.specs.declared.rows.Standstill.{Standstill}
use Rattle.status_rules.specs.declared.Status.{Status}
use Rattle.status_rules.specs.declared.Status.TheVariants as status
use Rattle.board_pages.specs.Bars.{bar_of, per_mille, tick_minute}
use Rattle.html_pages.specs.Pieces.{Part, filled, minute_if_any, minute_text, minutes_text, only, path_text}
use Rattle.board_pages.specs.declared.bars.Bar.{Bar}

-- the beginning of an operation's row, with a path to what holds it up, and its workstation
abbrev pub operation_parts : OpKey → Name → List Part
operation_parts o w = filled (codes "<tr class=\"\"><th scope=\"row\"><a href=\"/page/why/~\">~ ~</a> <small>~</small></th><td>~</td>")
    (path_text (operation_text o) ∷ o.occurrence.app ∷ decimal o.number ∷ minute_text (pos o.occurrence.arrival) ∷ w ∷ [])

-- the beginning of an occurrence's row of this class, with a path to its operations
abbrev pub key_parts : List ℕ → OccKey → List Part
key_parts class c =
    filled (codes "<tr class=\"~\"><th scope=\"row\">") (class ∷ [])
    ++ filled (codes "<a href=\"/page/show/operations/~\">~</a> <small>~</small></th>") (path_text (occurrence_text c) ∷ c.app ∷ minute_text (pos c.arrival) ∷ [])

-- a cell of a text
abbrev pub cell_parts : List ℕ → List Part
cell_parts text = filled (codes "<td>~</td>") (text ∷ [])

-- the last cells of a row
abbrev pub one_last : List ℕ → List Part
one_last text = filled (codes "<td>~</td></tr>\n") (text ∷ [])

abbrev pub two_last : List ℕ → List ℕ → List Part
two_last a b = filled (codes "<td>~</td><td>~</td></tr>\n") (a ∷ b ∷ [])

abbrev pub three_last : List ℕ → List ℕ → List ℕ → List Part
three_last a b c = filled (codes "<td>~</td><td>~</td><td>~</td></tr>\n") (a ∷ b ∷ c ∷ [])

-- two before the last one
abbrev pub two_before : List ℕ → List ℕ → List Part
two_before a b = filled (codes "<td>~</td><td>~</td>") (a ∷ b ∷ [])

-- a last one that tells by how many minutes something is late, if it is
abbrev pub late_parts : Option ℕ → List Part
late_parts (Some n) = filled (codes "<td class=\"bad\">~ min late</td></tr>\n") (decimal n ∷ [])
late_parts None = only (codes "<td></td></tr>\n")

-- ---- operations

-- how a status is called
abbrev pub status_word : Status → List ℕ
status_word status.Started = codes "started"
status_word status.Interrupted = codes "interrupted"
status_word status.Error = codes "in error"
status_word status.Undecided = codes "undecided"
status_word status.Deleted = codes "deleted"
status_word status.Complete = codes "complete"
status_word status.Arriving = codes "arriving"
status_word status.ReadyAfterNonreporting = codes "ready"
status_word status.Ready = codes "ready"
status_word status.Waiting = codes "waiting"

-- one that never begins and doesn't wait: its status, why it doesn't go on, and its latest start
abbrev pub standstill_row : Standstill → List Part
standstill_row r = operation_parts r.key r.workstation ++ cell_parts (status_word r.status) ++ cell_parts (standing_text r.standing ++ 10 ∷ []) ++ one_last (minute_text r.latest)

-- one that was named and isn't started: since when, for how many minutes nobody has asked for its workstation, and its latest start
abbrev pub named_row : OperationOutlook × Option ℕ → List Part
named_row r = operation_parts r.0.key r.0.workstation ++ three_last (minute_text (minute_if_any r.0.since)) (minutes_text r.1) (minute_text r.0.latest)

-- one that goes on longer than planned: since when, and by how many minutes
abbrev pub over_row : OperationOutlook → List Part
over_row r = operation_parts r.key r.workstation ++ two_last (minute_text (minute_if_any r.since)) (minutes_text r.over)

-- what a person has to do of one, from when or by when, its latest start, and by how much it comes after that
abbrev pub by_hand_row : ByHand → List Part
by_hand_row r = operation_parts r.key r.workstation ++ cell_parts (deed_text r.deed) ++ two_before (minute_text (minute_if_any r.at)) (minute_text r.latest) ++ late_parts r.late

-- one that runs: since when, and when it is to end
abbrev pub running_row : OperationOutlook → List Part
running_row r = operation_parts r.key r.workstation ++ two_last (minute_text (minute_if_any r.since)) (minute_text (minute_if_any r.end))

-- ---- occurrences

-- its deadline and its end
abbrev pub end_cells : OccurrenceOutlook → List Part
end_cells r = two_before (minute_text (pos r.deadline)) (minute_text (minute_if_any r.end))

-- one that will be late: these, and by how many minutes
abbrev pub late_row : OccurrenceOutlook → List Part
late_row r = key_parts [] r.key ++ end_cells r ++ late_parts r.late

-- the class of one: without an end, late, or on time
abbrev pub row_class : Option ℕ → Option ℕ → List ℕ
row_class None late = codes "never"
row_class (Some m) (Some n) = codes "late"
row_class (Some m) None = []

-- a bar, and the mark of a deadline
abbrev pub bar_parts : Bar → List Part
bar_parts b = filled (codes "<td class=\"t\"><div class=\"bar\" style=\"--p:~;--w:~\"></div><div class=\"by\" style=\"--p:~\"></div></td>")
    (decimal b.start ∷ decimal b.width ∷ decimal b.mark ∷ [])

-- that it has no end, and how many of its operations don't begin: where more may come after the forecast, they haven't started by then
abbrev pub endless_end : Bool → List ℕ
endless_end true = codes "<td class=\"bad\">not ended, not started: ~</td></tr>\n"
endless_end false = codes "<td class=\"bad\">won't end, never begin: ~</td></tr>\n"

-- by how much it is late, or what it has to spare; or that it has no end
abbrev pub spare_parts : Bool → OccurrenceOutlook → Option ℕ → Option ℕ → List Part
spare_parts cut r None late = filled (endless_end cut) (decimal r.never ∷ [])
spare_parts cut r (Some m) (Some n) = late_parts (Some n)
spare_parts cut r (Some m) None = filled (codes "<td>~ min to spare</td></tr>\n") (decimal (r.deadline - m) ∷ [])

-- the whole row: its bar, its deadline, its end, and what it has to spare
abbrev pub occurrence_row : Outlooks → OccurrenceOutlook → List Part
occurrence_row x r = key_parts (row_class r.end r.late) r.key ++ bar_parts (bar_of x r) ++ end_cells r ++ spare_parts x.is_cut r r.end r.late

-- ---- the axis

-- an hour that is told on the axis, unless it comes too near to its end
abbrev pub tick_parts : Outlooks → ℕ → List Part
tick_parts x k =
    cond (nat_le (per_mille x (tick_minute x k)) 900)
    (filled (codes "<span style=\"--p:~\">~</span>") (decimal (per_mille x (tick_minute x k)) ∷ minute_text (pos (tick_minute x k)) ∷ []))
    []
