use Rattle.std.proofs.Common.{◌≡◌, sym, ◌∙◌, ap, true≢false}
use Rattle.plan_basics.specs.declared.keys.OpKey.{OpKey}
use Rattle.plan_outlooks.specs.Paths.{EndsAt}
use Rattle.plan_outlooks.proofs.Comparing.{one_occurrence}
use Rattle.plan_outlooks.proofs.Deciding.{not_by}
use Rattle.plan_outlooks.proofs.OperationRows.{at_plan}
use Rattle.plan_outlooks.proofs.paths.is_end_of.Goals as goal

pub returns-then-ends_at : goal.returns-then-ends_at
returns-then-ends_at c = λ F o lent at.
    let key = c.key_at.ensures o at.0 (at_plan F c.args.refs.now lent c.args.place o at) in
    let told = one_occurrence c.key_at.result.occurrence c.args.occurrence.now c.eq.result c.eq.ensures in (
      (λ e. (ap (λ (k : OpKey). k.occurrence) (sym key) ∙ told.0 e, (c.ends_at.ensures F o lent at).0 c.if-ends_at.true)),
      (λ h. told.1 (ap (λ (k : OpKey). k.occurrence) key ∙ h.0)),
    )

pub returns-else-ends_at : goal.returns-else-ends_at
returns-else-ends_at c = λ F o lent at.
    not_by ((o.occurrence ≡ c.args.occurrence.now) × EndsAt F c.args.moment o) c.ends_at.result c.if-ends_at.false (λ h. true≢false (sym ((c.ends_at.ensures F o lent at).1 h.1) ∙ c.if-ends_at.false))
