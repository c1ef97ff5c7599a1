-- The forecast of the ten operations, found by its tests.
use Rattle.std.proofs.Common.{arith, ◌<◌}
use Rattle.std.specs.FinSet.{from_list}
use Rattle.std.specs.List.Sorted.{IsStrictlySortedBy}
use Rattle.plan_model.specs.Valid.{IsAcyclic}
use Rattle.worked_examples.specs.Ahead.{ForecastOfTen, five_to_ten, known_starts, ten_before, ten_sheet}
use Rattle.worked_examples.specs.Day.{evening}
use Rattle.worked_examples.specs.Night.{end_of_night}
use Rattle.worked_examples.proofs.Validity.{acyclic_by, each_pair}
use Rattle.worked_examples.proofs.WrittenAhead.{forecast_by}

acyclic : IsAcyclic (from_list ten_sheet.pairs)
acyclic = acyclic_by (λ o. o.number) (each_pair ten_sheet.pairs (λ p o. p.number < o.number) (grind arith))

pub forecast_of_ten : ForecastOfTen
unfolding IsStrictlySortedBy
forecast_of_ten =
    forecast_by ten_sheet acyclic end_of_night (omega arith) (omega arith) known_starts five_to_ten evening ten_before _ (omega arith) (omega arith) (omega arith) (grind arith) (grind arith) (grind arith)
