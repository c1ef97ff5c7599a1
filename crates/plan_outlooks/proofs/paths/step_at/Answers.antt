use Rattle.std.proofs.Common.{refl, sym, subst}
use Rattle.plan_outlooks.specs.Forecasts.{IsSinceUnknown}
use Rattle.plan_outlooks.specs.Lacks.{IsLack}
use Rattle.plan_outlooks.proofs.UnknownTold.{twice}
use Rattle.plan_outlooks.proofs.OperationRows.{at_plan}
use Rattle.plan_outlooks.proofs.paths.step_at.Goals as goal

pub returns : goal.returns
returns c = λ F o lent at ends.
    let x = c.args.refs.now in
    let before = c.cause_at-found.ensures F o lent at (c.is_going_at.ensures F o lent at) in (
      record {
        late = refl;
        key = c.key_at.ensures o at.0 (at_plan F x lent c.args.place o at);
        begin = c.begin_at-begin.ensures F o lent at;
        known = twice c.is_since_unknown.result (IsSinceUnknown F o) (c.is_since_unknown.ensures F o lent at);
        ending = ends.2;
        cause = before.0;
        lack = subst (λ m. IsLack F.plan F.requests o m c.lack_at-lack.result) (sym (c.begin_at-begin.ensures F o lent at)) (c.lack_at-lack.ensures F o lent at);
      },
      before,
    )
