use Rattle.std.proofs.Common.{map, take}
use Rattle.std.specs.List.{AllZip}
use Rattle.request_json.specs.Intervals.{IsIntervalOf}
use Rattle.serde_json.specs.View.{view}
use Rattle.request_json.proofs.intervals.read_intervals.Given as goal

abbrev pub invariant-loop-value : goal.invariant-loop-value
invariant-loop-value l = AllZip IsIntervalOf (map view (take l.value-index l.values)) l.intervals.items
