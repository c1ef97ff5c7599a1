use Rattle.std.proofs.Common.{◌≡◌, map}
use Rattle.tracker_http.specs.Lists.{ready_row}
use Rattle.tracker_http.proofs.lists.ready_rows.Given as goal

abbrev pub invariant-loop-view : goal.invariant-loop-view
invariant-loop-view l = l.rows.items ≡ map ready_row l.yielded
