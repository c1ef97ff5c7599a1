-- All that a forecast tells.
use Rattle.std.specs.Prelude.{◌≡◌, ℕ, Option, is_some}
use Rattle.plan_basics.specs.declared.keys.OpKey.{OpKey}
use Rattle.plan_model.specs.Plan.{Plan}
use Rattle.plan_outlooks.specs.Forecasts.{Forecast, IsForecastOf, told_to}
use Rattle.plan_outlooks.specs.Longest.{AreNamed, AreOver}
use Rattle.plan_outlooks.specs.Occurrences.{AreOccurrenceOutlooks}
use Rattle.plan_outlooks.specs.Operations.{AreOperationOutlooks}
use Rattle.plan_outlooks.specs.Paths.{AreLatePaths}
use Rattle.plan_outlooks.specs.Standstills.{AreStandstills}
use Rattle.plan_outlooks.specs.declared.rows.Outlooks.{Outlooks}

-- its span, whether a last minute was asked for, and its rows
pub record AreOutlooks (F : Forecast) (x : Outlooks) : Type 0 where
  pub from : x.from ≡ F.from
  pub to : x.to ≡ told_to F
  pub cut : x.is_cut ≡ is_some F.until
  pub occurrences : AreOccurrenceOutlooks F x.occurrences.items
  pub operations : AreOperationOutlooks F x.operations.items
  pub named : AreNamed x.operations.items x.named.items
  pub over : AreOver x.operations.items x.over.items
  pub paths : AreLatePaths F x.occurrences.items x.paths.items
  pub standstills : AreStandstills F x.standstills.items

-- it is read off a forecast of this plan, by what is known of starts, from this minute on, and up to that one, if one is asked for
abbrev pub IsOutlook : Plan → (OpKey → Option ℕ) → ℕ → Option ℕ → Outlooks → Type 0
IsOutlook P known from until x = (F : Forecast) × IsForecastOf F × (F.plan ≡ P) × (F.known ≡ known) × (F.from ≡ from) × (F.until ≡ until) × AreOutlooks F x
