-- What latest starts go by.
use Rattle.plan_model.specs.latest_start.specs.declared.Item.{Item}
use Rattle.status_rules.specs.Classes.{is_live}
use Rattle.counted_records.specs.plan_status.specs.declared.summaries.OperationSummary.{OperationSummary}

-- what the latest start of an operation goes by
abbrev pub start_item : OperationSummary → Item
start_item b = record { duration = b.duration; deadline = b.deadline; live = is_live b.mark }
