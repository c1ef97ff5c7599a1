use Rattle.std.proofs.Common.{◌≡◌, map, take}
use Rattle.plan_shows.specs.Values.{started_data}
use Rattle.serde_json.specs.View.{view}
use Rattle.plan_shows.proofs.values.listed_text.Given as goal

abbrev pub invariant-loop-view : goal.invariant-loop-view
invariant-loop-view l = map view l.values.items ≡ map started_data (take l.view-index l.views)
