use Rattle.std.proofs.Common.{◌≡◌, map, take}
use Rattle.request_json.specs.Replies.{key_data}
use Rattle.serde_json.specs.View.{view}
use Rattle.request_json.proofs.replies.key_values.Given as goal

abbrev pub invariant-loop-key : goal.invariant-loop-key
invariant-loop-key l = map view l.values.items ≡ map key_data (take l.key-index l.named)
