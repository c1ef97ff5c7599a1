use Rattle.std.proofs.Common.{◌≡◌, true}
use Rattle.desk_serving.specs.tracker_http.specs.Continuing.{Continues}
use Rattle.desk_runs.specs.Following.{AreStillTermsOf}
use Rattle.desk_runs.proofs.polling.serve_polled.Given as goal

abbrev pub invariant-loop : goal.invariant-loop
invariant-loop g l = record {
  continues : Continues g.S.Store l.fn.desk l.desk;
  usable : l.fn.desk.is_usable ≡ true → l.desk.is_usable ≡ true;
  known : AreStillTermsOf l.fn.desk.plan l.desk.plan l.fn.terms l.terms;
}
