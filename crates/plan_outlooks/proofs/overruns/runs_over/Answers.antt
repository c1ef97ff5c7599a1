use Rattle.std.proofs.Common.{◌≡◌, refl, sym, ◌∙◌, ap, subst, false, true≢false}
use Rattle.std.specs.Prelude.{Decides}
use Rattle.forecasting.specs.Known.{since_in}
use Rattle.plan_outlooks.specs.Overruns.{IsOverBy, RunsOver, planned_end}
use Rattle.plan_outlooks.proofs.Deciding.{not_by}
use Rattle.plan_outlooks.proofs.Overrunning.{runs_by}
use Rattle.plan_outlooks.proofs.overruns.runs_over.Goals as goal

pub returns-then-not-is_going : goal.returns-then-not-is_going
returns-then-not-is_going c = λ o op at.
    let P = c.args.loaded.now in
    let going = c.is_going.ensures P o c.read_for_proof.ensures.valid (c.reported_at-reported.ensures o op at) in
    not_by (RunsOver P (since_in c.args.known.now) c.args.at o) false refl (λ h. true≢false (sym (going.1 h.0) ∙ c.if-not-is_going.true))

pub returns : goal.returns
returns c = λ o op at.
    let P = c.args.loaded.now in
    let known = since_in c.args.known.now in
    let is = c.reported_at-reported.ensures o op at in
    let own = c.reported_at-reported.result.operation.now in
    let going = (c.is_going.ensures P o c.read_for_proof.ensures.valid is).0 c.if-not-is_going.false in
    let start : c.start_of.result ≡ known o = c.start_of.ensures ∙ ap known (c.key_at.ensures o op at) in
    subst (λ b. Decides b (RunsOver P known c.args.at o)) (sym c.is_some.ensures)
    (runs_by P known c.args.at o own is.operation going c.over_by.result (subst (λ z. IsOverBy (planned_end own z) c.args.at c.over_by.result) start c.over_by.ensures))
