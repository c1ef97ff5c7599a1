use Rattle.std.proofs.Common.{◌≡◌, inl, inr, refl, sym, ◌∙◌, subst, true≢false, Some, None}
use Rattle.plan_records.specs.plan_drafts.proofs.Tables.{is_none}
use Rattle.plan_model.specs.Status.{HasStatus}
use Rattle.status_rules.specs.declared.Status.TheVariants.{Complete}
use Rattle.derived_figures.specs.plan_laws.proofs.Standing.{one_status}
use Rattle.plan_forecast.specs.Ahead.{IsTimeAfter}
use Rattle.forecasting.proofs.complete.time_at.Goals as goal

pub returns-then-is_done : goal.returns-then-is_done
returns-then-is_done c = λ o op at.
    let P = c.args.loaded.now in
    let none : c.args.old ≡ None = is_none c.args.old (sym c.is_some.ensures ∙ c.if-is_some.false) in
    subst (λ z. IsTimeAfter (HasStatus P o Complete) c.args.at z (Some c.args.at)) (sym none)
    (inl (subst (HasStatus P o) (c.is_done.ensures.0 c.if-is_done.true) (c.status_at.ensures o op at), refl))

pub returns : goal.returns
returns c = λ o op at.
    let P = c.args.loaded.now in
    let none : c.args.old ≡ None = is_none c.args.old (sym c.is_some.ensures ∙ c.if-is_some.false) in
    subst (λ z. IsTimeAfter (HasStatus P o Complete) c.args.at z None) (sym none)
    (inr (λ h. true≢false (sym (c.is_done.ensures.1 (one_status P c.read_for_proof.ensures.valid.acyclic o c.status_at.result Complete (c.status_at.ensures o op at) h)) ∙ c.if-is_done.false), refl))
