-- Parts of a path: what an operation begins after, by the indices of rows.
use Rattle.std.specs.Prelude.{ℕ, Option, MatchOption}
use Rattle.plan_basics.specs.declared.keys.OpKey.{OpKey}
use Rattle.plan_reasons.specs.declared.reasons.Reason.{Reason}
use Rattle.plan_outlooks.specs.Forecasts.{Forecast}
use Rattle.plan_outlooks.specs.Lent.{IsOfRow}
use Rattle.plan_outlooks.specs.Paths.{GoesBack, IsCause, IsFirst}
use Rattle.plan_outlooks.specs.declared.rows.Cause.{Cause}

-- at this index is the row of the first operation in key order of which this is so; there is no index where it is so of none
abbrev pub IsFirstIn : Forecast → (OpKey → Type 0) → Option ℕ → Type 0
IsFirstIn F IsSo found = MatchOption found ((p : OpKey) → ¬ IsSo p) (λ i. (p : OpKey) × IsOfRow F i p × IsFirst IsSo p)

-- what o begins after, which begins at m, where that lacked, and the index of the operation with which its path goes on, if it does
abbrev pub IsBefore : Forecast → OpKey → ℕ → Option Reason → Cause → Option ℕ → Type 0
IsBefore F o m lack c next = IsCause F o m c × GoesBack F o m lack c (λ p. MatchOption next ⊥ (λ i. IsOfRow F i p)) (MatchOption next (Unit {0}) (λ i. ⊥))
