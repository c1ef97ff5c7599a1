-- The records of the small plan, as fields of a plan's text.
use Rattle.std.specs.Prelude.{ℕ, [], ◌∷◌, List, codes}
use Rattle.plan_items.specs.Items.{Fields}

-- the text of the first minute
abbrev pub first_minute : List ℕ
first_minute = codes "1972-01-01T00:00"

-- the last that an interval may end with
abbrev pub last_minute : List ℕ
last_minute = codes "2071-12-31T23:59"

-- the input arrival
abbrev pub arrival_text : List ℕ
arrival_text = codes "2024-03-01T22:00"

-- the deadline
abbrev pub deadline_text : List ℕ
deadline_text = codes "2024-03-02T05:00"

-- a workstation, its interval, an occurrence, two operations, of which the second names its deadline, and a pair
abbrev pub day_records : List Fields
day_records =
    (codes "W" ∷ codes "CPU1" ∷ codes "A" ∷ [] ∷ [] ∷ [] ∷ [] ∷ [] ∷ [] ∷ [] ∷ [])
    ∷ (codes "I" ∷ codes "CPU1" ∷ first_minute ∷ last_minute ∷ codes "2" ∷ codes "0" ∷ codes "0" ∷ [] ∷ [] ∷ [] ∷ [])
    ∷ (codes "O" ∷ codes "DAILY" ∷ arrival_text ∷ codes "5" ∷ deadline_text ∷ [] ∷ [] ∷ [] ∷ [] ∷ [] ∷ [])
    ∷ (codes "P" ∷ codes "DAILY" ∷ arrival_text ∷ codes "10" ∷ codes "CPU1" ∷ codes "30" ∷ codes "0" ∷ codes "0" ∷ [] ∷ [] ∷ [])
    ∷ (codes "P" ∷ codes "DAILY" ∷ arrival_text ∷ codes "20" ∷ codes "CPU1" ∷ codes "60" ∷ codes "0" ∷ codes "0" ∷ [] ∷ deadline_text ∷ [])
    ∷ (codes "D" ∷ codes "DAILY" ∷ arrival_text ∷ codes "10" ∷ codes "DAILY" ∷ arrival_text ∷ codes "20" ∷ [] ∷ [] ∷ [] ∷ [])
    ∷ []
