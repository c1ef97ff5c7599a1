-- Items, and what records say, of which a plan can be made.
use Rattle.std.specs.Prelude.{◌≡◌, ◌<◌, List, map, Some}
use Rattle.std.specs.FinMap.{len}
use Rattle.plan_items.specs.declared.Item.{Item}
use Rattle.plan_model.specs.Contents.{Contents}
use Rattle.plan_drafts.specs.Records.{AreItemsOf}
use Rattle.record_faults.specs.Sayings.{Sayings}

-- the items are those of a plan with a workstation and an occurrence
abbrev pub MakeSome : List Item → Type 0
MakeSome items = (P : Contents) × AreItemsOf items P × (0 < len P.workstations) × (0 < len P.occurrences)

-- each record says an item, and these are such items
abbrev pub SaySome : Sayings → Type 0
SaySome said = (items : List Item) × (said ≡ map Some items) × MakeSome items
