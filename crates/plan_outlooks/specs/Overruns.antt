-- Which operations run over their time, and what rests on that.
use Rattle.std.specs.Prelude.{◌≡◌, ℕ, ◌+◌, ◌<◌, pos, Bool, List, Option, Some, None, option_map, slice_get, Decides}
use Rattle.std.specs.FinMap.{entries}
use Rattle.plan_model.specs.operation_graph.specs.Paths.{ReachesBy}
use Rattle.plan_basics.specs.declared.keys.OpKey.{OpKey}
use Rattle.plan_forecast.specs.Ahead.{IsGoing, start_by}
use Rattle.plan_model.specs.Contents.{Contents, Has, Operation, Precedes}
use Rattle.plan_reasons.specs.Reasons.{IsUnsatisfied}
use Rattle.plan_outlooks.specs.Forecasts.{IsLateBy}

-- the minute at which what is going is to end, by what is known of its start; none where it is only named
abbrev pub planned_end : Operation → Option ℕ → Option ℕ
planned_end op known = option_map (λ b. b + op.duration) (start_by op.mark op.not_before known)

-- by how many minutes this minute is after a planned end, if there is one, and it is
abbrev pub IsOverBy : Option ℕ → ℕ → Option ℕ → Type 0
IsOverBy (Some end) from over = IsLateBy (Some from) (pos end) over
IsOverBy None from over = over ≡ None

-- it is going, and its planned end is before this minute, so that it is taken to end now
abbrev pub RunsOver : Contents → (OpKey → Option ℕ) → ℕ → OpKey → Type 0
RunsOver P known from o = IsGoing P o × Has P o (λ op. (e : ℕ) × (planned_end op (known o) ≡ Some e) × (e < from))

-- o runs over its time, or waits for what does, by pairs and through operations that aren't satisfied: its times are taken, and not known
abbrev pub IsTaken : Contents → (OpKey → Option ℕ) → ℕ → OpKey → Type 0
IsTaken P known from o = (p : OpKey) × RunsOver P known from p × ReachesBy (Precedes P) (IsUnsatisfied P) p o

-- at the index of each row stands whether its operation is
abbrev pub AreTaken : Contents → (OpKey → Option ℕ) → ℕ → List Bool → Type 0
AreTaken P known from flags = (i : ℕ) (o : OpKey) (op : Operation) → slice_get (entries P.operations) i ≡ Some (o, op) → (b : Bool) × (slice_get flags i ≡ Some b) × Decides b (IsTaken P known from o)
