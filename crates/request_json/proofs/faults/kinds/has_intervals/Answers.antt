use Rattle.std.proofs.Common.{map, codes}
use Rattle.serde_json.specs.Find.{get}
use Rattle.serde_json.specs.View.{view, items_view}
use Rattle.request_json.proofs.Found.{intervals_is}
use Rattle.request_json.proofs.Texts.{array_there}
use Rattle.request_json.proofs.faults.kinds.has_intervals.Goals as goal

pub returns : goal.returns
returns c =
    let d = view c.args.value.now in
    let there = array_there (get (codes "intervals") d) (items_view c.in-Some.list.now) c.in-Some.ensures in
    intervals_is d (map view c.in-Some.list.now) c.in_ok-found.found c.is_some.result there c.is_some.ensures c.in_ok-found.ensures
