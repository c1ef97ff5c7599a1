use Rattle.std.proofs.Common.{sym}
use Rattle.plan_basics.specs.Minutes.{IsMomentText}
use Rattle.plan_items.proofs.PartLaws.{filled_read}
use Rattle.plan_items.proofs.parts.read_not_before.Goals as goal

pub returns : goal.returns
returns c = filled_read c.args.text.now 0 (IsMomentText c.args.text.now) (sym c.if-is_empty.ensures) c.read_moment.result c.read_moment.ensures
