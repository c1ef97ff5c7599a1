use Rattle.std.proofs.Common.{◌≡◌, ◌<◌, ◌≤◌, arith, sym, ap, subst, Some}
use Rattle.std.proofs.lemmas.Int.{ints}
use Rattle.plan_model.specs.Contents.{Operation}
use Rattle.plan_reasons.specs.Parts.{IsOfKind}
use Rattle.plan_reasons.specs.declared.reasons.Reason.TheVariants as reason
use Rattle.plan_reasons.proofs.Resting.{none_early, some_early}
use Rattle.plan_reasons.proofs.single.too_early.Goals as goal

pub returns-then-minute : goal.returns-then-minute
returns-then-minute c P o start =
    let op = c.args.operation.now in
    let e : c.operation.inside.not_before ≡ op.not_before = ap (λ (x : Operation). x.not_before) c.operation.view_is in
    let early = c.if-minute.true in
    let a = c.minute.ensures.value in
    let b = c.minute-2.ensures.value in
    let lt : c.args.at < op.not_before = omega (arith, ints, early, a, b, e) in
    subst (λ t. IsOfKind P o op c.args.at 3 (Some (reason.TooEarly t))) (sym e) (some_early P o op c.args.at start lt)

pub returns-else-minute : goal.returns-else-minute
returns-else-minute c P o start =
    let op = c.args.operation.now in
    let e : c.operation.inside.not_before ≡ op.not_before = ap (λ (x : Operation). x.not_before) c.operation.view_is in
    let late = c.if-minute.false in
    let a = c.minute.ensures.value in
    let b = c.minute-2.ensures.value in
    let le : op.not_before ≤ c.args.at = omega (arith, ints, late, a, b, e) in
    none_early P o op c.args.at le
