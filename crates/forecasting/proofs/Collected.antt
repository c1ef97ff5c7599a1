-- What was collected are all turns that last.
use Rattle.std.proofs.Common.{◌≡◌, inl, inr, ℕ, List, [], Contains}
use Rattle.plan_model.specs.Contents.{Contents}
use Rattle.plan_forecast.specs.Laws.{IsNotBefore, IsOpening}
use Rattle.forecasting.specs.Adds.{Adds, AreLasting}

module _ (P : Contents) (from until : ℕ) (none xs ys : List ℕ) (is : none ≡ []) (openings : Adds from until (IsOpening P) none xs) (not_befores : Adds from until (IsNotBefore P) xs ys) (all : List ℕ) (same : (c : ℕ) → Contains ys c → Contains all c) where
  pub are_lasting : AreLasting P from until all
  are_lasting c low high (inl opens) = same c (not_befores.kept c (openings.all c low high opens))
  are_lasting c low high (inr late) = same c (not_befores.all c low high late)
