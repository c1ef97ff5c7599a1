use Rattle.std.proofs.Common.{refl, sym, subst}
use Rattle.plan_basics.specs.Watched.{inner_of}
use Rattle.tracker_http.specs.Exchange.{seen}
use Rattle.desk_journal.specs.declared.entries.Entry.{Entry}
use Rattle.request_commands.specs.Replays.{IsEntryTaken}
use Rattle.request_commands.proofs.Replayed.{cut_taken, entry_misplaced, operator_taken, other_misplaced, report_taken}
use Rattle.request_commands.proofs.replaying.take_entry.Goals as goal

pub returns-in-Cut : goal.returns-in-Cut
returns-in-Cut g c = cut_taken c.args.taken.number c.args.waiting c.args.taken.text.now c.args.entry (seen c.args.desk.now) (g.W.Write.contents (inner_of c.args.out.now)) c.in-Cut.is

pub returns-in-Report : goal.returns-in-Report
returns-in-Report g c =
    report_taken c.args.taken.number c.args.waiting c.args.taken.text.now c.args.entry (seen c.args.desk.now)
    (g.W.Write.contents (inner_of c.args.out.now)) (g.W.Write.contents (inner_of c.take_request.new.out)) (seen c.args.desk.now) c.take_request.result c.take_request.ensures.fault
    c.in-Report.body c.in-Report.is c.take_request.ensures.taken refl

pub returns-in-Operator : goal.returns-in-Operator
returns-in-Operator g c =
    operator_taken c.args.taken.number c.args.waiting c.args.taken.text.now c.args.entry (seen c.args.desk.now)
    (g.W.Write.contents (inner_of c.args.out.now)) (g.W.Write.contents (inner_of c.take_request-in-Operator.new.out)) (seen c.args.desk.now) c.take_request-in-Operator.result c.take_request-in-Operator.ensures.fault
    c.in-Operator.body c.in-Operator.is c.take_request-in-Operator.ensures.taken refl

pub returns-in-Answer : goal.returns-in-Answer
returns-in-Answer g c =
    let old = g.W.Write.contents (inner_of c.args.out.now) in
    let new = g.W.Write.contents (inner_of c.take_status.new.out) in
    subst (λ (x : Entry). IsEntryTaken c.args.taken.number c.args.waiting c.args.taken.text.now x (seen c.args.desk.now) old new c.take_status.result (seen c.take_status.new.desk)) (sym c.in-Answer.is) c.take_status.ensures

pub returns-in-Other : goal.returns-in-Other
returns-in-Other g c =
    entry_misplaced c.args.taken.number c.args.waiting c.args.taken.text.now c.args.entry (seen c.args.desk.now)
    (g.W.Write.contents (inner_of c.args.out.now)) (g.W.Write.contents (inner_of c.tell_misplaced.new.out)) (seen c.args.desk.now) c.tell_misplaced.result
    (other_misplaced c.args.waiting c.args.entry c.in-Other.is) c.tell_misplaced.ensures
