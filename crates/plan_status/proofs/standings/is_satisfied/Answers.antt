use Rattle.std.proofs.Common.{sym, subst, Decides}
use Rattle.plan_laws.proofs.Classes.{satisfied_decides}
use Rattle.plan_model.specs.Status.{IsSatisfied}
use Rattle.plan_status.proofs.standings.is_satisfied.Goals as goal

pub returns : goal.returns
returns c P o has its =
    let s = c.status.result in
    subst (λ b. Decides b (IsSatisfied P o)) (sym c.is_satisfied.ensures) (satisfied_decides P o s (c.status.ensures P o has its))
