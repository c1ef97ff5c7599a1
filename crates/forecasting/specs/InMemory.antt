-- A plan ahead in memory: the plan, and by the indices of its rows the times of its operations.
use Rattle.std.specs.Prelude.{◌≡◌, ℕ, ◌≤◌, true, List, length, map, Option, Some, None, slice_get}
use Rattle.std.specs.FinMap.{entries, get, keys}
use Rattle.plan_basics.specs.declared.keys.OpKey.{OpKey}
use Rattle.plan_model.specs.Contents.{Contents, Operation}
use Rattle.plan_model.specs.Plan.{Plan}
use Rattle.plan_forecast.specs.Ahead.{Ahead, HasWork, IsNext, LeadsTo, start_by}
use Rattle.plan_records.specs.declared.Request.{Request}
use Rattle.forecasting.specs.Times.{AreTimesOf}

-- it is this plan, which is loaded, and these are its times
pub record IsInMemory (s : Ahead) (P : Plan) (begun ended : List (Option ℕ)) : Type 0 where
  pub plan : s.plan ≡ P
  pub loaded : P.loaded ≡ true
  pub begun_size : length begun ≡ length (entries P.contents.operations)
  pub ended_size : length ended ≡ length (entries P.contents.operations)
  pub since : AreTimesOf s.since (entries P.contents.operations) begun
  pub done : AreTimesOf s.done (entries P.contents.operations) ended

-- there is no work from the clock on up to this moment
abbrev pub IsIdleUpTo : ℕ → Ahead → Type 0
IsIdleUpTo until s = (x : ℕ) → s.plan.clock ≤ x → x ≤ until → ¬ HasWork s x

-- the next request leads to what is in memory
abbrev pub GoesOn : ℕ → Ahead → Request → Plan → List (Option ℕ) → List (Option ℕ) → Type 0
GoesOn until s q P begun ended = (x : ℕ) × (mid : Ahead) × (x ≤ until) × IsNext s x q × LeadsTo s q mid × IsInMemory mid P begun ended

-- the second has the first one's workstations, and its operations at the same indices with the same not-befores
pub record IsLike (P Q : Contents) : Type 0 where
  pub workstations : Q.workstations ≡ P.workstations
  pub keys : keys Q.operations ≡ keys P.operations
  pub count : length (entries Q.operations) ≡ length (entries P.operations)
  pub rows : (i : ℕ) (o : OpKey) (op : Operation) → slice_get (entries Q.operations) i ≡ Some (o, op) → (old : Operation) × (slice_get (entries P.operations) i ≡ Some (o, old))
  pub found : (o : OpKey) (op : Operation) → get Q.operations o ≡ Some op → (old : Operation) × (get P.operations o ≡ Some old) × (op.not_before ≡ old.not_before)

-- of each row's operation what counts of its known start
abbrev pub times_by : (OpKey → Option ℕ) → List (OpKey × Operation) → List (Option ℕ)
times_by known rows = map (λ row. start_by row.1.mark row.1.not_before (known row.0)) rows

-- so many operations have no time
pub record NoTimes (count : ℕ) (times : List (Option ℕ)) : Type 0 where
  pub size : length times ≡ count
  pub none : (i : ℕ) (z : Option ℕ) → slice_get times i ≡ Some z → z ≡ None
