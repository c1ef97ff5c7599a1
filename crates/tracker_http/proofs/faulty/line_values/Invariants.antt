use Rattle.std.proofs.Common.{◌≡◌, string_bytes, map, take}
use Rattle.serde_json.specs.Data.{string}
use Rattle.serde_json.specs.View.{view}
use Rattle.tracker_http.proofs.faulty.line_values.Given as goal

-- the lines that were passed
abbrev pub invariant-loop-line : goal.invariant-loop-line
invariant-loop-line l = map view l.values.items ≡ map string (map string_bytes (take l.line-index l.lines))
