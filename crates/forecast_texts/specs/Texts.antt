-- The text of a forecast, part by part.
use Rattle.std.specs.Prelude.{◌≡◌, Bool, true, false, ℕ, List, [], ◌∷◌, ◌++◌, map, codes, Option}
use Rattle.plan_basics.specs.MomentTexts.{moment_text}
use Rattle.plan_basics.specs.declared.keys.OpKey.{OpKey}
use Rattle.plan_model.specs.Plan.{Plan}
use Rattle.plan_outlooks.specs.Outlooks.{IsOutlook}
use Rattle.plan_outlooks.specs.declared.rows.Outlooks.{Outlooks}
use Rattle.report_lines.specs.Lines.{report}
use Rattle.forecast_texts.specs.Columns.{by_hand_columns, named_columns, occurrence_columns, operation_columns, over_columns, path_columns, standstill_columns}
use Rattle.forecast_texts.specs.Hands.{hands}

-- what a first line ends with: the span of the forecast
abbrev pub span : Outlooks → List (List ℕ)
span x = codes "FROM" ∷ moment_text x.from ∷ codes "TO" ∷ moment_text x.to ∷ []

-- the occurrences
abbrev pub occurrences_text : Outlooks → List ℕ
occurrences_text x = report (codes "FORECAST OF OCCURRENCES" ∷ span x) (map occurrence_columns x.occurrences.items)

-- the operations that begin or are going
abbrev pub operations_text : Outlooks → List ℕ
operations_text x = report (codes "FORECAST OF OPERATIONS" ∷ span x) (map operation_columns x.operations.items)

-- the paths by which occurrences will be late
abbrev pub paths_text : Outlooks → List ℕ
paths_text x = report (codes "LATE PATHS" ∷ span x) (map path_columns x.paths.items)

-- how what doesn't begin is called: where more may come after the forecast it is only not started by then
abbrev pub never_words : Bool → List ℕ
never_words true = codes "NOT STARTED"
never_words false = codes "NEVER STARTED"

-- the operations that never begin
abbrev pub standstills_text : Outlooks → List ℕ
standstills_text x = report (never_words x.is_cut ∷ span x) (map standstill_columns x.standstills.items)

-- what a first line ends with of what is so at the moment of the forecast
abbrev pub moment : Outlooks → List (List ℕ)
moment x = codes "AT" ∷ moment_text x.from ∷ []

-- what was named and isn't started
abbrev pub named_text : Outlooks → List ℕ
named_text x = report (codes "NAMED AND NOT STARTED" ∷ moment x) (map named_columns x.named.items)

-- what goes on longer than planned
abbrev pub over_text : Outlooks → List ℕ
over_text x = report (codes "LONGER THAN PLANNED" ∷ moment x) (map over_columns x.over.items)

-- what people have to do
abbrev pub hands_text : Outlooks → List ℕ
hands_text x = report (codes "BY HAND" ∷ span x) (map by_hand_columns (hands x))

-- the whole text
abbrev pub forecast_text : Outlooks → List ℕ
forecast_text x = occurrences_text x ++ operations_text x ++ paths_text x ++ standstills_text x ++ named_text x ++ over_text x ++ hands_text x

-- it tells what is read off a forecast of this plan
abbrev pub IsForecastText : Plan → (OpKey → Option ℕ) → ℕ → Option ℕ → List ℕ → Type 0
IsForecastText P known from until text = (x : Outlooks) × IsOutlook P known from until x × (text ≡ forecast_text x)
