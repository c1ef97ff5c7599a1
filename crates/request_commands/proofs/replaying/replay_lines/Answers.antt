use Rattle.std.proofs.Common.{◌≡◌, rules, subst, sym, Err}
use Rattle.plan_basics.specs.Watched.{inner_of}
use Rattle.tracker_http.specs.Exchange.{seen}
use Rattle.request_commands.specs.Replays.{IsReplayed}
use Rattle.request_commands.proofs.Replayed.{taking_begins, taking_breaks_off, taking_ends, taking_goes_on, taking_parts}
use Rattle.request_commands.proofs.replaying.replay_lines.Goals as goal

pub loop-text-init : goal.loop-text-init
loop-text-init g c = taking_begins c.args.journal.now (seen c.args.desk.now) (g.W.Write.contents (inner_of c.args.out.now))

pub returns-in_err-step : goal.returns-in_err-step
returns-in_err-step g c =
    let journal = c.args.journal.now in
    let s = seen c.args.desk.now in
    let old = g.W.Write.contents (inner_of c.args.out.now) in
    let new = g.W.Write.contents (inner_of c.take_line.new.out) in
    let is : c.from_residual.result ≡ Err c.in_err-step.field-0.0 = search rules in
    subst (λ r. IsReplayed journal s old new r) (sym is)
    (taking_breaks_off journal s old (g.W.Write.contents (inner_of c.loop-text.out)) c.loop-text.number c.loop-text.waiting c.loop-text.rest.now (seen c.loop-text.desk) c.loop-text.invariant
    c.in-Some.text.now c.in-Some.after.now c.in_err-step.field-0.0 (seen c.take_line.new.desk) new
    c.in-Some.ensures.first c.in_err-step.ensures)

pub loop-text-preserved : goal.loop-text-preserved
loop-text-preserved g c =
    let taken = rw c.in-GoesOn.is at c.in_ok-step.ensures in
    taking_goes_on c.args.journal.now (seen c.args.desk.now) (g.W.Write.contents (inner_of c.args.out.now))
    (g.W.Write.contents (inner_of c.loop-text.out)) c.loop-text.number c.loop-text.waiting c.loop-text.rest.now (seen c.loop-text.desk) c.loop-text.invariant
    c.in-Some.text.now c.in-Some.after.now taken.0 c.in-GoesOn.next (seen c.take_line.new.desk)
    (g.W.Write.contents (inner_of c.take_line.new.out)) c.in-Some.ensures.first taken.1 taken.2

pub returns-in-Parts : goal.returns-in-Parts
returns-in-Parts g c =
    let taken = rw c.in-Parts.is at c.in_ok-step.ensures in
    taking_parts c.args.journal.now (seen c.args.desk.now) (g.W.Write.contents (inner_of c.args.out.now))
    (g.W.Write.contents (inner_of c.loop-text.out)) c.loop-text.number c.loop-text.waiting c.loop-text.rest.now (seen c.loop-text.desk) c.loop-text.invariant
    c.in-Some.text.now c.in-Some.after.now taken.0 (seen c.take_line.new.desk)
    (g.W.Write.contents (inner_of c.take_line.new.out)) c.in-Some.ensures.first taken.1 taken.2

pub returns : goal.returns
returns g c =
    taking_ends c.args.journal.now (seen c.args.desk.now) (g.W.Write.contents (inner_of c.args.out.now))
    (g.W.Write.contents (inner_of c.loop-text.out)) (g.W.Write.contents (inner_of c.tell_end.new.out)) c.loop-text.number c.loop-text.waiting c.loop-text.rest.now (seen c.loop-text.desk)
    c.tell_end.result c.loop-text.invariant (search rules) c.tell_end.ensures.shown c.tell_end.ensures.fault
