use Rattle.std.proofs.Common.{◌≡◌, sym, ◌∙◌, ap, subst, true≢false, ℕ, Some}
use Rattle.std.specs.FinMap.{get}
use Rattle.std.proofs.lemmas.Option.{same_Some}
use Rattle.plan_basics.specs.declared.keys.OpKey.{OpKey}
use Rattle.plan_model.specs.Contents.{Contents, Has, Operation}
use Rattle.plan_outlooks.proofs.CausesTold.{by_frees, by_not_before, by_opens}
use Rattle.plan_outlooks.proofs.Comparing.{equal_by, other_by}
use Rattle.plan_outlooks.proofs.OperationRows.{at_plan}
use Rattle.plan_outlooks.proofs.paths.cause_of.Goals as goal

-- its not-before is another one
not_then : (P : Contents) (o : OpKey) (op : Operation) (n m : ℕ) → get P.operations o ≡ Some op → n ≡ op.not_before → ¬ (n ≡ m) → ¬ Has P o (λ z. z.not_before ≡ m)
not_then P o op n m is read other h = other (read ∙ ap (λ (z : Operation). z.not_before) (sym (same_Some h.0 op (sym h.1 ∙ is))) ∙ h.2)

pub returns-then-eq : goal.returns-then-eq
returns-then-eq c = λ F o lent at later after none.
    let x = c.args.refs.now in
    let is = c.reported_at-reported.ensures o at.0 (at_plan F x lent c.args.place o at) in
    let op = c.reported_at-reported.result.operation.now in
    let same : op.not_before ≡ c.args.moment = ap (λ (z : Operation). z.not_before) (sym c.operation.view_is) ∙ equal_by c.operation.inside.not_before c.args.moment c.eq.result c.eq.ensures c.if-eq.true in
    by_not_before F o c.args.moment c.args.lack.now later after none (subst (λ (P : Contents). Has P o (λ z. z.not_before ≡ c.args.moment)) lent.plan (op, is.operation, same))

pub returns-then-opens_at : goal.returns-then-opens_at
returns-then-opens_at c = λ F o lent at later after none.
    let x = c.args.refs.now in
    let is = c.reported_at-reported.ensures o at.0 (at_plan F x lent c.args.place o at) in
    let op = c.reported_at-reported.result.operation.now in
    let found : get F.plan.contents.operations o ≡ Some op = ap (λ (P : Contents). get P.operations o) (sym lent.plan) ∙ is.operation in
    let other = not_then F.plan.contents o op c.operation.inside.not_before c.args.moment found (ap (λ (z : Operation). z.not_before) c.operation.view_is)
    (other_by c.operation.inside.not_before c.args.moment c.eq.result c.eq.ensures c.if-eq.false) in
    by_opens F o c.args.moment c.args.lack.now later after none other ((c.opens_at.ensures F o lent found).0 c.if-opens_at.true)

pub returns : goal.returns
returns c = λ F o lent at later after none.
    let x = c.args.refs.now in
    let is = c.reported_at-reported.ensures o at.0 (at_plan F x lent c.args.place o at) in
    let op = c.reported_at-reported.result.operation.now in
    let found : get F.plan.contents.operations o ≡ Some op = ap (λ (P : Contents). get P.operations o) (sym lent.plan) ∙ is.operation in
    let other = not_then F.plan.contents o op c.operation.inside.not_before c.args.moment found (ap (λ (z : Operation). z.not_before) c.operation.view_is)
    (other_by c.operation.inside.not_before c.args.moment c.eq.result c.eq.ensures c.if-eq.false) in
    by_frees F o c.args.moment c.args.lack.now later after none other (λ opens. true≢false (sym ((c.opens_at.ensures F o lent found).1 opens) ∙ c.if-opens_at.false)) c.freeing.result (c.freeing.ensures F lent)
