use Rattle.std.proofs.Common.{◌∷◌, [], codes, refl}
use Rattle.serde_json.specs.Data.{string}
use Rattle.serde_json.specs.View.{view}
use Rattle.request_json.proofs.Said.{depend_said}
use Rattle.request_json.proofs.requests.read_depend.Goals as goal

pub returns-in_err-predecessor : goal.returns-in_err-predecessor
returns-in_err-predecessor c =
    rw c.from_residual.ensures (λ x a. let said = (depend_said (view c.args.value.now) c.args.count x a).1 in c.in_err-predecessor.ensures said.0 said.1)

pub returns-in_err-successor : goal.returns-in_err-successor
returns-in_err-successor c =
    rw c.from_residual-in_err-successor.ensures (λ x a. let said = (depend_said (view c.args.value.now) c.args.count x a).2 in c.in_err-successor.ensures said.0 said.1)

pub returns : goal.returns
returns c =
    let p = c.in_ok-predecessor.ensures in
    let s = c.in_ok-successor.ensures in
    ((codes "from", string p.0) ∷ (codes "to", string s.0) ∷ [], (refl, p.0, s.0, p.2, s.2, refl), c.if-count-ne4.false, (p.1, (s.1, tt)))
