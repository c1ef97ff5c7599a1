use Rattle.std.proofs.lemmas.Result.{IfOk-weaker}
use Rattle.plan_shows.proofs.Health.{health_written}
use Rattle.plan_shows.proofs.values.health_text.Goals as goal

pub returns : goal.returns
returns c = IfOk-weaker c.to_vec.result _ _ (λ b text. text (health_written c.args.stood c.args.plan.now.plan)) (rw c.in_ok-health_value.ensures at c.to_vec.ensures.text)
