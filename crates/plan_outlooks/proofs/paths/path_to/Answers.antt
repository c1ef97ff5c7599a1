use Rattle.std.proofs.Common.{sym, subst, arith, ◌+◌, ◌≤◌, length, Some, List}
use Rattle.std.specs.FinMap.{entries}
use Rattle.plan_model.specs.Contents.{Contents}
use Rattle.plan_model.specs.Valid.{IsAcyclic}
use Rattle.plan_outlooks.specs.declared.rows.PathMember.{PathMember}
use Rattle.plan_outlooks.proofs.FirstOnes.{row_within}
use Rattle.plan_outlooks.proofs.GoingBack.{PathUpTo, path_begins, path_ends, path_more}
use Rattle.plan_outlooks.proofs.paths.path_to.Goals as goal

pub loop-init : goal.loop-init
loop-init c = λ F o lent at ends. subst (λ (items : List PathMember). PathUpTo F c.args.late.now o 0 items (Some c.args.last) c.args.ending) (sym c.new-path.ensures.items) (path_begins F c.args.late.now c.args.last o c.args.ending at ends)

pub step_at-step-requires : goal.step_at-step-requires
step_at-step-requires c =
    let (F, o, lent, at, ends) = c.requires in
    let so_far : PathUpTo F c.args.late.now o c.loop.counter c.loop.path.items (Some c.in-Some.place) c.loop.until = subst (λ next. PathUpTo F c.args.late.now o c.loop.counter c.loop.path.items next c.loop.until) c.in-Some.is (c.loop.invariant F o lent at ends) in
    (F, lent, row_within F c.in-Some.place so_far.0 so_far.1)

pub loop-preserved : goal.loop-preserved
loop-preserved c = λ F o lent at ends.
    let so_far : PathUpTo F c.args.late.now o c.loop.counter c.loop.path.items (Some c.in-Some.place) c.loop.until = subst (λ next. PathUpTo F c.args.late.now o c.loop.counter c.loop.path.items next c.loop.until) c.in-Some.is (c.loop.invariant F o lent at ends) in
    let step = c.step_at-step.result in
    let told = c.step_at-step.ensures F so_far.0 lent so_far.1 so_far.2 in
    subst (λ (items : List PathMember). PathUpTo F c.args.late.now o (c.loop.counter + 1) items step.place step.member.begin) (sym c.in_ok-push-in-Some.ensures.items)
    (path_more F c.args.late.now o c.loop.counter c.loop.path.items c.in-Some.place c.loop.until so_far step.member told.0 step.place told.1)

pub returns-in-None : goal.returns-in-None
returns-in-None c = λ F o lent at ends. subst (λ next. PathUpTo F c.args.late.now o c.loop.counter c.loop.path.items next c.loop.until) c.in-None.is (c.loop.invariant F o lent at ends)

pub returns : goal.returns
returns c = λ F o lent at ends.
    let past = c.loop-test.false in
    let size = lent.done_size in
    let all : length (entries F.plan.contents.operations) ≤ c.loop.counter = omega (arith, past, size) in
    path_ends F c.args.late.now o c.loop.counter c.loop.path.items c.loop.next c.loop.until (subst (λ (P : Contents). IsAcyclic P.pairs) lent.plan c.read_for_proof.ensures.valid.acyclic) all (c.loop.invariant F o lent at ends)
