use Rattle.serde_json.specs.View.{view}
use Rattle.request_json.proofs.OnOperation.{told_on, read_on}
use Rattle.request_json.proofs.operations.read_on_operation.Goals as goal

pub returns-in_err-key : goal.returns-in_err-key
returns-in_err-key c =
    rw c.from_residual.ensures (λ x a. let t = told_on (view c.args.value.now) c.args.count x c.args.verb.now a.0 a.1 in c.in_err-key.ensures t.0 t.3)

pub returns : goal.returns
returns c = read_on (view c.args.value.now) c.args.count c.args.verb.now c.in_ok-key.key c.on_operation.result c.if-count-ne3.false c.in_ok-key.ensures c.on_operation.ensures
