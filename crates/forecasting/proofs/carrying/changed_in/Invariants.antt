use Rattle.forecasting.proofs.Gathered.{AreTouchedUpTo}
use Rattle.forecasting.proofs.carrying.changed_in.Given as goal

abbrev pub invariant-loop-row : goal.invariant-loop-row
invariant-loop-row l = AreTouchedUpTo l.fn.loaded l.rows l.row-index l.places.items
