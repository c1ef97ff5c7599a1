-- The parts that records are made of, as their fields spell them.
use Rattle.std.specs.Prelude.{◌≡◌, ◌⊎◌, ℕ, ◌≤◌, Bool, true, false, List, [], Option, Some, None, MatchOption, codes, decimal}
use Rattle.plan_basics.specs.declared.keys.OccKey.{OccKey}
use Rattle.plan_basics.specs.declared.keys.OpKey.{OpKey}
use Rattle.plan_basics.specs.declared.limits.TheConstants.{LEAST_NUMBER, GREATEST_NUMBER, MOST_QUANTITY}
use Rattle.plan_basics.specs.Names.{IsName, IsResourceName}
use Rattle.plan_basics.specs.Minutes.{IsMomentText}
use Rattle.plan_basics.specs.Intervals.{OpenInterval, IsInterval}
use Rattle.special_resources.specs.declared.Mode.{Mode}
use Rattle.special_resources.specs.declared.Mode.TheVariants.{Shared, Exclusive}
use Rattle.special_resources.specs.declared.Need.{Need}

-- what a reader answers: a value that the text spells, or none where it spells no value
abbrev pub IsReading : {A : Type 0} → (A → Type 0) → Option A → Type 0
IsReading {A = A} spells found = MatchOption found ((x : A) → ¬ spells x) spells

-- whether a special resource is available: yes or no
abbrev pub available_letter : Bool → List ℕ
available_letter true = codes "Y"
available_letter false = codes "N"

-- how a special resource is needed: shared or exclusive
abbrev pub mode_letter : Mode → List ℕ
mode_letter Shared = codes "S"
mode_letter Exclusive = codes "X"

-- whether an error keeps a special resource: kept or free
abbrev pub keep_letter : Bool → List ℕ
keep_letter true = codes "K"
keep_letter false = codes "F"

-- a whole number from least to most
abbrev pub IsWithin : ℕ → ℕ → ℕ → Type 0
IsWithin least most n = (least ≤ n) × (n ≤ most)

-- the decimal text of a whole number from least to most
abbrev pub IsNumberText : ℕ → ℕ → List ℕ → ℕ → Type 0
IsNumberText least most text n = IsWithin least most n × (text ≡ decimal n)

-- an empty field means no moment of its own; else the text of a moment
abbrev pub IsMomentOrEmpty : List ℕ → Option ℕ → Type 0
IsMomentOrEmpty text None = text ≡ []
IsMomentOrEmpty text (Some m) = IsMomentText text m

-- an empty not-before means the first minute; else the text of a moment
abbrev pub IsNotBefore : List ℕ → ℕ → Type 0
IsNotBefore text m = ((text ≡ []) × (m ≡ 0)) ⊎ IsMomentText text m

-- an empty quantity means the greatest one; else the text of one
abbrev pub IsQuantityText : List ℕ → ℕ → Type 0
IsQuantityText text n = ((text ≡ []) × (n ≡ MOST_QUANTITY)) ⊎ IsNumberText 1 MOST_QUANTITY text n

-- an exclusive need has an empty amount and takes the whole; an empty amount of a shared one means 1, else it is the text of one
abbrev pub IsAmountText : Mode → List ℕ → ℕ → Type 0
IsAmountText Exclusive text n = (text ≡ []) × (n ≡ 0)
IsAmountText Shared text n = ((text ≡ []) × (n ≡ 1)) ⊎ IsNumberText 1 MOST_QUANTITY text n

-- an occurrence's key: application and input arrival
abbrev pub IsOccurrenceAt : List ℕ → List ℕ → OccKey → Type 0
IsOccurrenceAt app arrival key = IsName 16 key.app × (app ≡ key.app) × IsMomentText arrival key.arrival

-- an operation's key: application, input arrival and number
abbrev pub IsOperationAt : List ℕ → List ℕ → List ℕ → OpKey → Type 0
IsOperationAt app arrival number key = IsOccurrenceAt app arrival key.occurrence × IsNumberText LEAST_NUMBER GREATEST_NUMBER number key.number

-- an open interval: first minute, end, servers and fixed resources
abbrev pub IsIntervalAt : List ℕ → List ℕ → List ℕ → List ℕ → List ℕ → OpenInterval → Type 0
IsIntervalAt from end servers r1 r2 x = IsInterval x × IsMomentText from x.from × IsMomentText end x.end × (servers ≡ decimal x.servers) × (r1 ≡ decimal x.r1) × (r2 ≡ decimal x.r2)

-- a need of a special resource: its name, the mode, whether an error keeps it, and the amount
abbrev pub IsNeedAt : List ℕ → List ℕ → List ℕ → List ℕ → Need → Type 0
IsNeedAt name mode keep amount need = IsResourceName need.name × (name ≡ need.name) × (mode ≡ mode_letter need.mode) × (keep ≡ keep_letter need.keep) × IsAmountText need.mode amount need.amount
