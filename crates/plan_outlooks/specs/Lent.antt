-- A forecast in memory, lent.
use Rattle.std.specs.Prelude.{◌≡◌, ℕ, ◌≤◌, length, Some, slice_get}
use Rattle.std.specs.FinMap.{entries}
use Rattle.plan_basics.specs.declared.keys.OpKey.{OpKey}
use Rattle.forecasting.specs.InMemory.{IsLike}
use Rattle.forecasting.specs.Known.{since_in}
use Rattle.forecasting.specs.Times.{AreTimesOf}
use Rattle.plan_model.specs.Contents.{Operation}
use Rattle.plan_model.specs.Status.{HasStatus}
use Rattle.status_rules.specs.declared.Status.TheVariants.{Complete}
use Rattle.plan_outlooks.specs.Forecasts.{Forecast, told_to}
use Rattle.plan_outlooks.specs.Lacks.{AreLacks}
use Rattle.plan_outlooks.specs.Overruns.{AreTaken}
use Rattle.plan_outlooks.specs.declared.refs.ForecastRefs.{ForecastRefs}

-- o is the operation whose row is at this index
abbrev pub IsOfRow : Forecast → ℕ → OpKey → Type 0
IsOfRow F i o = (op : Operation) × (slice_get (entries F.plan.contents.operations) i ≡ Some (o, op))

-- its plans, at whose indices the same operations stand; of each the times in the end, known of what is complete, none of them before it, and its own minute of what was complete already; what is known of starts, of each whether its times are only taken, and what it lacks as it begins; its span
pub record IsLent (F : Forecast) (x : ForecastRefs) : Type 0 where
  pub plan : x.plan.now ≡ F.plan.contents
  pub last : x.last.now ≡ F.last.plan.contents
  pub like : IsLike F.plan.contents F.last.plan.contents
  pub since_size : length x.since.now ≡ length (entries F.plan.contents.operations)
  pub done_size : length x.done.now ≡ length (entries F.plan.contents.operations)
  pub since : AreTimesOf F.last.since (entries F.plan.contents.operations) x.since.now
  pub done : AreTimesOf F.last.done (entries F.plan.contents.operations) x.done.now
  pub timed : (o : OpKey) → HasStatus F.last.plan.contents o Complete → (m : ℕ) × (F.last.done o ≡ Some m)
  pub onward : (o : OpKey) (m : ℕ) → F.last.done o ≡ Some m → F.from ≤ m
  pub already : (o : OpKey) → HasStatus F.plan.contents o Complete → F.last.done o ≡ Some F.from
  pub from : x.from ≡ F.from
  pub to : x.to ≡ told_to F
  pub known : F.known ≡ since_in x.known.now
  pub taken_size : length x.taken.now ≡ length (entries F.plan.contents.operations)
  pub taken : AreTaken F.plan.contents F.known F.from x.taken.now
  pub lacks_size : length x.lacks.now ≡ length (entries F.plan.contents.operations)
  pub lacks : AreLacks F x.lacks.now
