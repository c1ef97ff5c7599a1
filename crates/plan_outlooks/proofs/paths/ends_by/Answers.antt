use Rattle.std.proofs.Common.{arith}
use Rattle.plan_outlooks.proofs.GoingBack.{one_beginning}
use Rattle.plan_outlooks.proofs.paths.ends_by.Goals as goal

pub returns-then-ends_at : goal.returns-then-ends_at
returns-then-ends_at c = λ F o lent at.
    let begin = c.begin_at.result in
    let its = c.begin_at.ensures F o lent at in (
      (λ e. ((c.ends_at.ensures F o lent at).0 c.if-ends_at.true, (begin, its, c.is_by.ensures.0 e))),
      (λ h. let (b, from, early) = h.1 in let same = one_beginning F o b begin from its in c.is_by.ensures.1 (omega (arith, same, early))),
    )
