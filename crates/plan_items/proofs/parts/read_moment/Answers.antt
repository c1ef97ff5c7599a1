use Rattle.plan_basics.specs.Minutes.{IsMomentText}
use Rattle.plan_items.proofs.PartLaws.{as_reading}
use Rattle.plan_items.proofs.parts.read_moment.Goals as goal

pub returns : goal.returns
returns c = as_reading (IsMomentText c.args.text.now) c.from_text.result c.from_text.ensures.some c.from_text.ensures.value
