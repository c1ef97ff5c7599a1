use Rattle.std.proofs.Common.{◌∷◌, [], codes, refl}
use Rattle.serde_json.specs.Data.{string}
use Rattle.serde_json.specs.View.{view}
use Rattle.request_json.proofs.Said.{error_said}
use Rattle.request_json.proofs.requests.read_error.Goals as goal

pub returns-in_err-key : goal.returns-in_err-key
returns-in_err-key c = rw c.from_residual.ensures (λ x a. let said = (error_said (view c.args.value.now) c.args.count x a).1 in c.in_err-key.ensures said.0 said.1)

pub returns : goal.returns
returns c =
    let k = c.in_ok-key.ensures in
    let code = c.in_ok-code.ensures in
    ((codes "op", string k.0) ∷ (codes "code", string c.in_ok-code.code) ∷ [], (refl, k.0, k.2, code.0, refl), c.if-count-ne4.false, (k.1, (code.1, tt)))
