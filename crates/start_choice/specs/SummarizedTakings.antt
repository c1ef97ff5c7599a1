-- What operations take, by their summaries.
use Rattle.std.specs.Prelude.{ℕ, Bool, true, ◌&&◌, List, Some, count_by}
use Rattle.status_rules.specs.Table.{marked_status}
use Rattle.counted_records.specs.plan_status.specs.declared.summaries.OperationSummary.{OperationSummary}
use Rattle.plan_model.specs.Holdings.{holds_resource, holds_server, takes}

-- whether the operation holds a server of its workstation
abbrev pub takes_server_by_summary : OperationSummary → Bool
takes_server_by_summary b = takes (Some b.attribute) && holds_server (marked_status b.mark)

-- whether the operation holds what it needs of special resources, or some of it: it is under way or in error where starts are known
abbrev pub may_hold : OperationSummary → Bool
may_hold b = takes (Some b.attribute) && holds_resource true (marked_status b.mark)

-- how many of the operations may hold special resources
abbrev pub holder_count : List OperationSummary → ℕ
holder_count summaries = count_by may_hold summaries
