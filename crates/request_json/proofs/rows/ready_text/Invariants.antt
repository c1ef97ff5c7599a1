use Rattle.std.proofs.Common.{◌≡◌, map, take}
use Rattle.request_json.specs.Replies.{ready_data}
use Rattle.serde_json.specs.View.{view}
use Rattle.request_json.proofs.rows.ready_text.Given as goal

abbrev pub invariant-loop-row : goal.invariant-loop-row
invariant-loop-row l = map view l.values.items ≡ map ready_data (take l.row-index l.rows)
