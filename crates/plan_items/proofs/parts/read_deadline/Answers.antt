use Rattle.std.proofs.Common.{sym}
use Rattle.plan_items.proofs.PartLaws.{deadline_unread}
use Rattle.plan_items.proofs.parts.read_deadline.Goals as goal

pub returns-in_err-read_moment : goal.returns-in_err-read_moment
returns-in_err-read_moment c = rw c.from_residual.ensures (deadline_unread c.args.text.now (sym c.if-is_empty.ensures) c.in_err-read_moment.ensures)
