use Rattle.std.proofs.Common.{sym}
use Rattle.plan_basics.specs.declared.limits.TheConstants.{MOST_QUANTITY}
use Rattle.plan_items.specs.Parts.{IsNumberText}
use Rattle.plan_items.proofs.PartLaws.{filled_read}
use Rattle.plan_items.proofs.parts.read_shared_amount.Goals as goal

pub returns : goal.returns
returns c = filled_read c.args.text.now 1 (IsNumberText 1 MOST_QUANTITY c.args.text.now) (sym c.if-is_empty.ensures) c.number_within.result c.number_within.ensures
