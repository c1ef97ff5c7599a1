use Rattle.std.proofs.Common.{rules}
use Rattle.desk_runs.proofs.Continuing.{continues_none, continues_on}
use Rattle.desk_runs.proofs.Faults.{usable_before}
use Rattle.desk_runs.proofs.Followed.{still_first, still_followed}
use Rattle.desk_runs.proofs.polling.serve_events.Goals as goal

pub loop-event-init : goal.loop-event-init
loop-event-init g c = record {
  can_next = search rules;
  is_finite = search rules;
  continues = continues_none g.S.Store c.args.desk.now;
  usable = λ was. was;
  known = still_first c.args.desk.now.plan c.args.terms.now c.requires.known;
}

pub loop-event-preserved : goal.loop-event-preserved
loop-event-preserved g c = record {
  can_next = search rules;
  is_finite = search rules;
  continues = continues_on g.S.Store c.args.desk.now c.loop-event.desk c.serve_event.new.desk c.loop-event.invariant.continues c.in_ok-told.ensures.continues;
  usable = λ was. c.in_ok-told.ensures.usable (c.loop-event.invariant.usable was);
  known = still_followed c.args.desk.now.plan c.loop-event.desk.plan c.serve_event.new.desk.plan c.args.terms.now c.loop-event.terms c.serve_event.new.terms c.loop-event.invariant.known c.in_ok-told.ensures.followed;
}

pub returns-in_err-told-clause-continues : goal.returns-in_err-told-clause-continues
returns-in_err-told-clause-continues g c =
    continues_on g.S.Store c.args.desk.now c.loop-event.desk c.serve_event.new.desk c.loop-event.invariant.continues c.in_err-told.ensures.continues

pub returns-in_err-told-clause-fault : goal.returns-in_err-told-clause-fault
returns-in_err-told-clause-fault g c =
    usable_before c.args.desk.now.is_usable c.loop-event.desk.is_usable c.serve_event.new.desk.is_usable c.loop-event.invariant.usable c.from_residual.result (search rules)
