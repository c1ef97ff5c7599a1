-- What a request that was accepted tells of starts.
use Rattle.std.specs.Prelude.{◌≡◌, ℕ, ◌≤◌, ℤ, pos, Option, Some, None, MatchOption}
use Rattle.http_messages.specs.declared.asking.Asked.{Asked}
use Rattle.plan_basics.specs.declared.keys.OpKey.{OpKey}
use Rattle.plan_records.specs.Changes.{operation_of}
use Rattle.plan_records.specs.declared.Request.{Request}
use Rattle.plan_records.specs.declared.What.{What}
use Rattle.plan_records.specs.declared.What.TheVariants as what
use Rattle.tracker_http.specs.Readings.{ReadsFor}
use Rattle.tracker_http.specs.declared.reading.Reading.{Reading}
use Rattle.tracker_http.specs.declared.reading.Reading.TheVariants as reading

-- the minute of a moment that isn't after the clock; of a later one there is none
abbrev pub IsMinuteUpTo : ℕ → ℤ → Option ℕ → Type 0
IsMinuteUpTo clock at minute = MatchOption minute ((m : ℕ) → at ≡ pos m → ¬ (m ≤ clock)) (λ m. (at ≡ pos m) × (m ≤ clock))

-- the minute of the start that is reported at this moment, where a start is
abbrev pub IsStartAt : ℕ → ℤ → What → Option ℕ → Type 0
IsStartAt clock at (what.Started o) start = IsMinuteUpTo clock at start
IsStartAt clock at _ start = start ≡ None

abbrev pub IsStartOf : ℕ → Request → Option ℕ → Type 0
IsStartOf clock q start = IsStartAt clock q.at q.what start

-- what a request tells: the operation that it is about, if it is about one, and its start
abbrev pub IsMentionOf : ℕ → Request → Option (OpKey × Option ℕ) → Type 0
IsMentionOf clock q mention = MatchOption (operation_of q.what) (mention ≡ None) (λ o. (start : Option ℕ) × IsStartOf clock q start × (mention ≡ Some (o, start)))

-- the request that was read, if one was
abbrev pub request_in : Reading → Option Request
request_in (reading.Report n) = Some n.request
request_in (reading.Operator q) = Some q
request_in reading.Nothing = None

-- the request that is asked, if anything is and it is one
abbrev pub IsRequestOf : Option Asked → Option Request → Type 0
IsRequestOf None q = q ≡ None
IsRequestOf (Some a) q = (r : Reading) × ReadsFor a r × (q ≡ request_in r)

-- what is told by the request that is asked so, if anything is and it is one
abbrev pub IsMentionAsked : ℕ → Option Asked → Option (OpKey × Option ℕ) → Type 0
IsMentionAsked clock a mention = (q : Option Request) × IsRequestOf a q × MatchOption q (mention ≡ None) (λ r. IsMentionOf clock r mention)
