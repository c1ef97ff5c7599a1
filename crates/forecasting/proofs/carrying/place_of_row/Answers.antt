use Rattle.std.proofs.Common.{◌≡◌, subst, Some, slice_get}
use Rattle.std.specs.FinMap.{entries}
use Rattle.plan_records.specs.declared.OperationRow.{OperationRow}
use Rattle.forecasting.proofs.Gathered.{place_found}
use Rattle.forecasting.proofs.carrying.place_of_row.Goals as goal

pub returns-in-Operation-clause-found : goal.returns-in-Operation-clause-found
returns-in-Operation-clause-found c = λ i r op is at.
    let P = c.args.loaded.now in
    let mine = c.in-Operation.row in
    let same : r ≡ mine = cc in
    let there : slice_get (entries P.operations) i ≡ Some (mine.op, op) = subst (λ (x : OperationRow). slice_get (entries P.operations) i ≡ Some (x.op, op)) same at in
    place_found P i mine.op op there c.place_of.result c.place_of.ensures.found c.place_of.ensures.absent
