use Rattle.std.proofs.Common.{subst}
use Rattle.forecasting.specs.Known.{HaveHeard}
use Rattle.forecasting.proofs.Heard.{heard_next}
use Rattle.forecasting.proofs.known.KnownStarts.hear_all.Goals as goal

pub loop-mention-preserved : goal.loop-mention-preserved
loop-mention-preserved c =
    let so_far = subst (HaveHeard c.args.self.now c.args.mentions.now c.loop-mention.self) c.in-Some.ensures.cases.0 c.loop-mention.invariant in
    heard_next c.args.self.now c.args.mentions.now c.loop-mention.self c.hear.new.self c.in-Some.mention.now c.in-Some.others.now so_far c.in_ok-hear.ensures
