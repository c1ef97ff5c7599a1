use Rattle.plan_items.proofs.ItemLaws.{one_item}
use Rattle.plan_items.proofs.one_item.Goals as goal

pub returns : goal.returns
returns c = one_item
