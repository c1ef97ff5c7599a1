-- The axis of the occurrences' bars: that of tonight. It begins at the forecast's moment, and goes on for a quarter of its span after the last deadline within a day.
use Rattle.std.specs.Prelude.{ℕ, ◌+◌, ◌-◌, ◌*◌, ◌/◌, Bool, cond, find, fold, nat_le, Option, Some, None, option_map, max, min}
use Rattle.std.specs.Ordering.{eq_by_cmp}
use Rattle.plan_basics.specs.Keys.{occurrence_cmp}
use Rattle.plan_basics.specs.declared.keys.OccKey.{OccKey}
use Rattle.forecast_texts.specs.plan_outlooks.specs.declared.rows.OccurrenceOutlook.{OccurrenceOutlook}
use Rattle.forecast_texts.specs.plan_outlooks.specs.declared.rows.OperationOutlook.{OperationOutlook}
use Rattle.forecast_texts.specs.plan_outlooks.specs.declared.rows.Outlooks.{Outlooks}
use Rattle.board_pages.specs.declared.bars.Bar.{Bar}

-- the later of a minute and a deadline, where that comes by the end of the day
abbrev pub later_within : ℕ → ℕ → ℕ → ℕ
later_within end m deadline = max m (cond (nat_le deadline end) deadline 0)

-- the last deadline within a day from the forecast's moment on; 0 where there is none
abbrev pub last_deadline : Outlooks → ℕ
last_deadline x = fold (λ m (r : OccurrenceOutlook). later_within (x.from + 1440) m r.deadline) 0 x.occurrences.items

-- the minutes up to it: an hour at least, and a day at most
abbrev pub span_of : Outlooks → ℕ
span_of x = max (min (last_deadline x - x.from) 1440) 60

-- its length in minutes
abbrev pub length_of : Outlooks → ℕ
length_of x = span_of x * 5 / 4

-- the place of a minute on it, in parts of a thousand: what comes before it stands at its beginning, what comes after it at its end
abbrev pub per_mille : Outlooks → ℕ → ℕ
per_mille x m = min ((m - x.from) * 1000 / length_of x) 1000

-- whether an operation is one of this occurrence
abbrev pub is_of : OccKey → OperationOutlook → Bool
is_of c r = eq_by_cmp occurrence_cmp r.key.occurrence c

-- when the first of the operations of an occurrence begins, if any does
abbrev pub begin_of : Outlooks → OccKey → Option ℕ
begin_of x c = option_map (λ r. r.begin) (find (is_of c) x.operations.items)

-- the hours that are told on it: from the first after its beginning on, so many hours apart that eight reach to its end
abbrev pub tick_minute : Outlooks → ℕ → ℕ
tick_minute x k = (x.from / 60 + 1 + k * (length_of x / 480 + 1)) * 60

-- the end of a bar: the axis's own where the occurrence has no end
abbrev pub bar_end : Outlooks → Option ℕ → ℕ
bar_end x (Some m) = per_mille x m
bar_end x None = 1000

-- a bar from this place to that one, seen where it is short too; with the mark of a deadline
abbrev pub bar_from : ℕ → ℕ → ℕ → Bar
bar_from start end mark = record { start = start; width = max (end - start) 1; mark = mark }

-- the bar of an occurrence, from when its first operation begins to its end; of no width where none of its operations begins
abbrev pub bar_by : Outlooks → OccurrenceOutlook → Option ℕ → Bar
bar_by x r (Some b) = bar_from (per_mille x b) (bar_end x r.end) (per_mille x r.deadline)
bar_by x r None = record { start = 0; width = 0; mark = per_mille x r.deadline }

abbrev pub bar_of : Outlooks → OccurrenceOutlook → Bar
bar_of x r = bar_by x r (begin_of x r.key)
