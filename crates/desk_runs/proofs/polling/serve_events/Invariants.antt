use Rattle.std.proofs.Common.{◌≡◌, true}
use Rattle.desk_serving.specs.tracker_http.specs.Continuing.{Continues}
use Rattle.desk_runs.specs.Following.{AreStillTermsOf}
use Rattle.desk_runs.proofs.polling.serve_events.Given as goal

abbrev pub invariant-loop-event : goal.invariant-loop-event
invariant-loop-event g l = record {
  can_next : (goal.iterator-loop-event g).can_next l.event-iterator;
  is_finite : (goal.iterator-loop-event g).is_finite l.event-iterator;
  continues : Continues g.S.Store l.fn.desk l.desk;
  usable : l.fn.desk.is_usable ≡ true → l.desk.is_usable ≡ true;
  known : AreStillTermsOf l.fn.desk.plan l.desk.plan l.fn.terms l.terms;
}
