use Rattle.std.proofs.Common.{sym, subst, None}
use Rattle.plan_basics.specs.Refusals.{NoneRefuses}
use Rattle.request_outcomes.proofs.Refusing.{load_is_free}
use Rattle.request_outcomes.proofs.first.check_first.Goals as goal
use Rattle.request_outcomes.specs.Requested.{MayBeMadeAt}
use Rattle.plan_records.specs.declared.What.{What}
use Rattle.small_requests.specs.plan_checks.proofs.Searching.{if_ok}
use Rattle.plan_model.specs.Plan.{plan_held}

pub returns-in-Load-clause-ok : goal.returns-in-Load-clause-ok
returns-in-Load-clause-ok c = λ clock at.
    let P = plan_held clock None in
    if_ok c.check_load.result c.check_load.ensures.ok (λ may. subst (λ (v : What). NoneRefuses (MayBeMadeAt P at v)) (sym c.in-Load.is) (load_is_free P at c.in-Load.draft may))
