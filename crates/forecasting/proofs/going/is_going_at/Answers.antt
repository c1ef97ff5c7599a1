use Rattle.std.proofs.Common.{sym, ◌∙◌, true≢false}
use Rattle.forecasting.proofs.Deciding.{may_be}
use Rattle.forecasting.proofs.going.is_going_at.Goals as goal

pub returns-then-not-may_be_going : goal.returns-then-not-may_be_going
returns-then-not-may_be_going c = λ o op at. (
  λ e. absurd (true≢false (sym e)),
  λ going. absurd (true≢false (sym (c.may_be_going.ensures.1 (may_be c.args.loaded.now o c.status_at.result c.read_for_proof.ensures.valid (c.status_at.ensures o op at) going)) ∙ c.if-not-may_be_going.true)),
)

pub returns : goal.returns
returns c = λ o op at. c.is_going.ensures c.args.loaded.now o c.read_for_proof.ensures.valid (c.reported_at.ensures o op at)
