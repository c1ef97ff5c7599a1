use Rattle.std.proofs.Common.{◌≡◌, map}
use Rattle.tracker_http.specs.Lists.{occurrence_row}
use Rattle.tracker_http.proofs.lists.occurrence_rows.Given as goal

abbrev pub invariant-loop-view : goal.invariant-loop-view
invariant-loop-view l = l.rows.items ≡ map occurrence_row l.yielded
