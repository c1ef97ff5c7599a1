use Rattle.plan_shows.proofs.TypedKeys.{typed_at_last, typed_so}
use Rattle.plan_shows.proofs.typed.operation_typed.Goals as goal

pub returns-in-Some : goal.returns-in-Some
returns-in-Some c = typed_so 3 c.args.text.now c.in-Some.key c.in-Some.ensures

pub returns-in-Some-typed_by : goal.returns-in-Some-typed_by
returns-in-Some-typed_by c = typed_so 2 c.args.text.now c.in-Some-typed_by.key c.in-Some-typed_by.ensures

pub returns : goal.returns
returns c = typed_at_last c.args.text.now c.in_default.ensures c.in_default-typed_by.ensures c.typed_by-3.result c.typed_by-3.ensures
