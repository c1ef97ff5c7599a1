use Rattle.std.proofs.Common.{arith}
use Rattle.request_json.specs.Intervals.{IsIntervalOf}
use Rattle.serde_json.specs.View.{view}
use Rattle.request_json.proofs.Beside.{zip_more, zip_at}
use Rattle.request_json.proofs.intervals.read_intervals.Goals as goal

pub returns-in-None : goal.returns-in-None
returns-in-None c =
    λ intervals h.
    let found = zip_at view IsIntervalOf c.args.values.now intervals c.loop-value.value-index c.value-item.result (omega arith) c.value-item.is h in
    c.in-None.ensures found.0 found.1

pub loop-value-preserved : goal.loop-value-preserved
loop-value-preserved c =
    rw c.in_ok-push-in-Some.ensures.items
    (zip_more view IsIntervalOf c.args.values.now c.loop-value.intervals.items c.loop-value.value-index c.value-item.result c.in-Some.interval (omega arith) c.value-item.is c.loop-value.invariant c.in-Some.ensures)
