use Rattle.std.proofs.Common.{rules, refl, sym, subst, ℕ, Some}
use Rattle.plan_basics.specs.Refusals.{NoneRefuses}
use Rattle.request_outcomes.proofs.Refusing.{is_free, is_stopped, load_is_free}
use Rattle.request_outcomes.proofs.outcomes.check_in.Goals as goal
use Rattle.request_outcomes.specs.Requested.{MayBeMadeAt}
use Rattle.plan_records.specs.Acceptance.{IsLoad}
use Rattle.plan_records.specs.declared.What.{What}
use Rattle.small_requests.specs.plan_checks.proofs.Searching.{if_ok, if_refused}
use Rattle.plan_model.specs.Plan.{Plan, plan_held}

pub returns-in-Load-clause-ok : goal.returns-in-Load-clause-ok
returns-in-Load-clause-ok c = λ clock.
    let P = plan_held clock (Some c.args.records.now.contents) in
    if_ok c.check_load.result c.check_load.ensures.ok (λ may. subst (λ (v : What). NoneRefuses (MayBeMadeAt P c.args.at v)) (sym c.in-Load.is) (load_is_free P c.args.at c.in-Load.draft may))

pub returns-in_default : goal.returns-in_default
returns-in_default c =
    let w = c.args.what.now in
    let m = c.args.at in
    let held : ℕ → Plan = λ clock. plan_held clock (Some c.args.records.now.contents) in
    let told = c.check_request in
    let other : ¬ IsLoad w = search rules in
    record {
      ok = λ clock. if_ok told.result told.ensures.ok (is_free (held clock) m w (λ _. refl) (λ load. absurd (other load)));
      refused = λ clock. if_refused told.result told.ensures.refused (is_stopped (held clock) m w (λ _. refl) (λ load. absurd (other load)));
      contents = told.ensures.contents;
      most = told.ensures.most;
    }
