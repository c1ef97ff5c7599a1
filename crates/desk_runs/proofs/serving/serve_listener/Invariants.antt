use Rattle.desk_serving.specs.tracker_http.specs.Continuing.{Continues}
use Rattle.desk_runs.proofs.serving.serve_listener.Given as goal

abbrev pub invariant-loop : goal.invariant-loop
invariant-loop g l = record {
  continues : Continues g.S.Store l.fn.desk l.desk;
}
