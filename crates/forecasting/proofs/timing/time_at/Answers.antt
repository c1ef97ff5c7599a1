use Rattle.std.proofs.Common.{◌≡◌, inl, inr, refl, sym, ◌∙◌, ap, subst, true≢false, Some, None}
use Rattle.plan_records.specs.plan_drafts.proofs.Tables.{is_none}
use Rattle.plan_forecast.specs.Ahead.{IsGoing, IsTimeAfter, counted_from}
use Rattle.forecasting.proofs.timing.time_at.Goals as goal

pub returns-then-is_going_at : goal.returns-then-is_going_at
returns-then-is_going_at c = λ o op at.
    let P = c.args.loaded.now in
    let none : c.args.old ≡ None = is_none c.args.old (sym c.is_some.ensures ∙ c.if-is_some.false) in
    subst (λ z. IsTimeAfter (IsGoing P o) (counted_from P c.args.at o) z (Some c.counted_at.result)) (sym none)
    (inl ((c.is_going_at.ensures o op at).0 c.if-is_going_at.true, ap Some (c.counted_at.ensures o op at)))

pub returns : goal.returns
returns c = λ o op at.
    let P = c.args.loaded.now in
    let none : c.args.old ≡ None = is_none c.args.old (sym c.is_some.ensures ∙ c.if-is_some.false) in
    subst (λ z. IsTimeAfter (IsGoing P o) (counted_from P c.args.at o) z None) (sym none)
    (inr (λ going. true≢false (sym ((c.is_going_at.ensures o op at).1 going) ∙ c.if-is_going_at.false), refl))
