-- A whole page, part by part.
use Rattle.std.specs.Prelude.{◌≡◌, ℕ, pos, zero, suc, Bool, true, false, List, [], ◌∷◌, ◌++◌, codes, count_by, decimal, filter, flat_map, length, map, nat_le, Option, Some, None}
use Rattle.std.specs.List.{range_with_len}
use Rattle.forecast_texts.specs.Hands.{hands}
use Rattle.forecast_texts.specs.declared.hands.ByHand.{ByHand}
use Rattle.forecast_texts.specs.plan_outlooks.specs.declared.rows.OccurrenceOutlook.{OccurrenceOutlook}
use Rattle.forecast_texts.specs.plan_outlooks.specs.declared.rows.OperationOutlook.{OperationOutlook}
use Rattle.forecast_texts.specs.plan_outlooks.specs.declared.rows.Outlooks.{Outlooks}
use Rattle.forecast_texts.specs.plan_outlooks.specs.declared.rows.Standstill.{Standstill}
use Rattle.board_pages.specs.Choices.{AreByLatest, AreBySpare, has_no_end, is_going_since_unknown, is_late, is_troubled, runs}
use Rattle.html_pages.specs.Beginnings.{beginning_parts}
use Rattle.html_pages.specs.Pieces.{Part, bytes, date_text, filled, hour_text, only}
use Rattle.board_pages.specs.Rows.{by_hand_row, late_row, named_row, occurrence_row, over_row, running_row, standstill_row, tick_parts}
use Rattle.board_pages.specs.Tables.{table_parts}
use Rattle.board_pages.specs.Views.{unasked}
use Rattle.board_pages.specs.declared.markup.TheConstants as markup
use Rattle.board_pages.specs.declared.views.View.{View}
use Rattle.board_pages.specs.declared.views.Watch.{Watch}

-- ---- the head

-- the clock, in the title and as heading
abbrev pub clock_parts : ℕ → Bool → List Part
clock_parts clock still =
    beginning_parts still (filled (codes "<title>Board ~</title>\n<style>\n") (hour_text (pos clock) ∷ [])) ++ only markup.STYLE_END.now
    ++ filled (codes "</style>\n</head>\n<body>\n<header>\n<h1><small>~</small>~</h1>\n") (date_text (pos clock) ∷ hour_text (pos clock) ∷ [])

-- a page that isn't loaded again leads to one that is, up to the same moment
abbrev pub still_parts : Bool → Option ℕ → List Part
still_parts false until = []
still_parts true None = only (codes "<p>This page doesn't load again: <a href=\"/board\">one that does</a></p>\n")
still_parts true (Some m) =
    filled (codes "<p>This page doesn't load again: <a href=\"/board?until=~T~\">one that does</a></p>\n") (date_text (pos m) ∷ hour_text (pos m) ∷ [])

-- for how many minutes the plan's clock has stood: an alarm from so many on
abbrev pub stood_template : Bool → List ℕ
stood_template true = codes "<p class=\"alarm\" role=\"alert\">The plan's clock has stood for ~ minutes: nobody ticks, and nothing new is named</p>\n"
stood_template false = codes "<p>The plan's clock has stood for ~ minutes</p>\n"

abbrev pub stood_parts : Option Watch → List Part
stood_parts None = []
stood_parts (Some w) = filled (stood_template (nat_le w.stale w.stood)) (decimal w.stood ∷ [])

-- a count before its words: one of what somebody has to look at is filled where it isn't 0
abbrev pub count_template : Bool → ℕ → List ℕ
count_template true (suc n) = codes "<li class=\"alarm\"><b>~</b> "
count_template true zero = codes "<li><b>~</b> "
count_template false n = codes "<li><b>~</b> "

-- a count and its words
abbrev pub count_parts : Bool → ℕ → List ℕ → List Part
count_parts alarm count words = filled (count_template alarm count) (decimal count ∷ []) ++ only words ++ only (codes "</li>\n")

-- how what has no end is called: where more may come after the forecast, it only hasn't ended
abbrev pub endless_words : Bool → List ℕ
endless_words true = codes "not ended"
endless_words false = codes "won't end"

-- all counts, where so many operations are complete, and so many by hand: operations that never begin and are in error or undecided, occurrences that have no end or will be late, and operations
abbrev pub counts_parts : Outlooks → ℕ → ℕ → List Part
counts_parts x complete by_hand = flat_map (λ (r : Bool × ℕ × List ℕ). count_parts r.0 r.1 r.2) (
    (true, count_by is_troubled x.standstills.items, codes "in error or undecided")
    ∷ (true, count_by has_no_end x.occurrences.items, endless_words x.is_cut)
    ∷ (true, count_by is_late x.occurrences.items, codes "late")
    ∷ (true, length x.over.items, codes "longer than planned")
    ∷ (false, length x.named.items, codes "named and not started")
    ∷ (false, by_hand, codes "by hand")
    ∷ (false, count_by (λ r. r.is_going) x.operations.items, codes "going")
    ∷ (false, complete, codes "complete")
    ∷ [])

-- ---- the tables

-- the head of what never begins: where more may come after the forecast, it only hasn't started
abbrev pub needing_head : Bool → List ℕ
needing_head true = codes "<section><h2>Not started <small>by the end of the forecast</small></h2>\n<table><thead><tr><th scope=\"col\">Operation</th><th scope=\"col\">Workstation</th><th scope=\"col\">Status</th><th scope=\"col\">Why</th><th scope=\"col\">Start by</th></tr></thead><tbody>\n"
needing_head false = codes "<section><h2>Nothing comes of these <small>until somebody acts</small></h2>\n<table><thead><tr><th scope=\"col\">Operation</th><th scope=\"col\">Workstation</th><th scope=\"col\">Status</th><th scope=\"col\">Why</th><th scope=\"col\">Start by</th></tr></thead><tbody>\n"

-- what never begins and doesn't wait
abbrev pub needing_part : Outlooks → List Standstill → List Part
needing_part x needing = table_parts (needing_head x.is_cut) standstill_row 8 needing

-- what was named and isn't started, with for how many minutes nobody has asked for its workstation
abbrev pub named_rows : Outlooks → Option Watch → List (OperationOutlook × Option ℕ)
named_rows x watch = map (λ (r : OperationOutlook). (r, unasked watch r.workstation)) x.named.items

abbrev pub named_part : Outlooks → Option Watch → List Part
named_part x watch = table_parts (codes "<section><h2>Named and not started</h2>\n<table><thead><tr><th scope=\"col\">Operation</th><th scope=\"col\">Workstation</th><th scope=\"col\">Named</th><th scope=\"col\">Nobody asked for</th><th scope=\"col\">Start by</th></tr></thead><tbody>\n") named_row 8 (named_rows x watch)

-- what goes on longer than planned
abbrev pub over_part : Outlooks → List Part
over_part x = table_parts (codes "<section><h2>Longer than planned</h2>\n<table><thead><tr><th scope=\"col\">Operation</th><th scope=\"col\">Workstation</th><th scope=\"col\">Since</th><th scope=\"col\">Over</th></tr></thead><tbody>\n") over_row 8 x.over.items

-- what will be late, in this order
abbrev pub late_part : List OccurrenceOutlook → List Part
late_part sorted = table_parts (codes "<section><h2>Will be late</h2>\n<table><thead><tr><th scope=\"col\">Occurrence</th><th scope=\"col\">Deadline</th><th scope=\"col\">Ends</th><th scope=\"col\">Late</th></tr></thead><tbody>\n") late_row 8 (filter is_late sorted)

-- what people have to do
abbrev pub by_hand_part : List ByHand → List Part
by_hand_part rows = table_parts (codes "<section><h2>By hand</h2>\n<table><thead><tr><th scope=\"col\">Operation</th><th scope=\"col\">Workstation</th><th scope=\"col\">Do</th><th scope=\"col\">When</th><th scope=\"col\">Start by</th><th scope=\"col\">Late</th></tr></thead><tbody>\n") by_hand_row 8 rows

-- what runs
abbrev pub running_part : Outlooks → List Part
running_part x = table_parts (codes "<section><h2>Running</h2>\n<table><thead><tr><th scope=\"col\">Operation</th><th scope=\"col\">Workstation</th><th scope=\"col\">Since</th><th scope=\"col\">Ends</th></tr></thead><tbody>\n") running_row 16 (filter runs x.operations.items)

-- what somebody has to look at
abbrev pub trouble_parts : Outlooks → Option Watch → List Standstill → List Part
trouble_parts x watch needing = needing_part x needing ++ named_part x watch ++ over_part x

-- what is ahead
abbrev pub ahead_parts : Outlooks → List ByHand → List OccurrenceOutlook → List Part
ahead_parts x by_hand sorted = late_part sorted ++ by_hand_part by_hand ++ running_part x

-- ---- the occurrences

-- the hours of the axis
abbrev pub ticks_parts : Outlooks → List Part
ticks_parts x = flat_map (tick_parts x) (range_with_len 0 8)

-- the occurrences, each with its bar: two hundred rows
abbrev pub occurrences_part : Outlooks → List OccurrenceOutlook → List Part
occurrences_part x sorted =
    only (codes "<section class=\"wide\"><h2>Occurrences <small>least time to spare first; an upright mark is a deadline</small></h2>\n<table><thead><tr><th scope=\"col\">Occurrence</th><th scope=\"col\" class=\"t\">") ++ ticks_parts x
    ++ table_parts (codes "</th><th scope=\"col\">Deadline</th><th scope=\"col\">Ends</th><th scope=\"col\">Spare</th></tr></thead><tbody>\n") (occurrence_row x) 200 sorted

-- ---- the foot

-- how many operations, if any, are going since an unknown moment
abbrev pub unknown_parts : ℕ → List Part
unknown_parts zero = []
unknown_parts (suc n) = filled (codes ". Going since an unknown moment: <b>~</b>, each taken to begin at the clock and to last its whole duration") (decimal (suc n) ∷ [])

abbrev pub unknown_count : Outlooks → List Part
unknown_count x = unknown_parts (count_by is_going_since_unknown x.operations.items)

-- up to when the page tells
abbrev pub foot_parts : Outlooks → List Part
foot_parts x = filled (codes "</main>\n<footer>Forecast to ~ ~") (date_text (pos x.to) ∷ hour_text (pos x.to) ∷ []) ++ unknown_count x ++ only (codes ".</footer>\n</body>\n</html>\n")

-- ---- the page

abbrev pub head_parts : Outlooks → ℕ → ℕ → View → Option Watch → List Part
head_parts x complete by_hand view watch =
    clock_parts x.from view.is_still ++ still_parts view.is_still view.until ++ stood_parts watch ++ only (codes "<ul>\n") ++ counts_parts x complete by_hand
    ++ only (codes "</ul>\n</header>\n<main>\n")

-- all that comes after it, where what needs somebody, what people have to do and the occurrences stand in these orders
abbrev pub body_parts : Outlooks → Option Watch → List Standstill → List ByHand → List OccurrenceOutlook → List Part
body_parts x watch needing by_hand sorted = trouble_parts x watch needing ++ ahead_parts x by_hand sorted ++ occurrences_part x sorted ++ foot_parts x

-- the text is the board's page of what a forecast tells, where so many operations are complete, looked at so, at a desk that knows this: what needs somebody stands by its latest start, the occurrences by the time that they have to spare
abbrev pub IsBoardPage : Outlooks → ℕ → View → Option Watch → List ℕ → Type 0
IsBoardPage x complete view watch text =
    (needing : List Standstill) × (sorted : List OccurrenceOutlook) × AreByLatest x.standstills.items needing × AreBySpare x.occurrences.items sorted
    × (text ≡ bytes (head_parts x complete (length (hands x)) view watch ++ body_parts x watch needing (hands x) sorted))
