use Rattle.std.proofs.Common.{◌∷◌, [], codes, refl, map}
use Rattle.serde_json.specs.Data.{string, array}
use Rattle.serde_json.specs.Find.{get}
use Rattle.serde_json.specs.View.{view, items_of, items_view}
use Rattle.request_json.proofs.Said.{no_intervals}
use Rattle.request_json.proofs.Texts.{array_there}
use Rattle.request_json.proofs.requests.read_replacement.Goals as goal

pub returns-in-Some-2 : goal.returns-in-Some-2
returns-in-Some-2 c =
    let there = array_there (get (codes "intervals") (view c.args.value.now)) (items_view c.in-Some-array_at.list.now) c.in-Some-array_at.ensures in
    let rows = map view c.in-Some-array_at.list.now in
    let read = rw c.in-Some-2.is at c.in_ok-intervals.ensures in
    ((codes "ws", string c.in-Some.workstation) ∷ (codes "intervals", array (items_of rows)) ∷ [], (refl, c.in-Some.ensures.0, rows, read, refl), c.if-count-ne4.false, (c.in-Some.ensures.1, (there, tt)))

pub returns-in-None : goal.returns-in-None
returns-in-None c =
    let there = array_there (get (codes "intervals") (view c.args.value.now)) (items_view c.in-Some-array_at.list.now) c.in-Some-array_at.ensures in
    no_intervals (view c.args.value.now) c.args.count (map view c.in-Some-array_at.list.now) there (rw c.in-None.is at c.in_ok-intervals.ensures)
