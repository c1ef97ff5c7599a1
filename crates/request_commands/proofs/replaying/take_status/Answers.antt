use Rattle.std.proofs.Common.{refl}
use Rattle.plan_basics.specs.Watched.{inner_of}
use Rattle.tracker_http.specs.Exchange.{seen}
use Rattle.desk_journal.specs.declared.entries.Entry.TheVariants as entry
use Rattle.request_commands.proofs.Replayed.{answer_misplaced, answer_taken, entry_misplaced}
use Rattle.request_commands.proofs.replaying.take_status.Goals as goal

pub returns-in-Some : goal.returns-in-Some
returns-in-Some g c =
    answer_taken c.args.answer.number c.args.waiting c.args.answer.text.now (entry.Answer c.args.status) (seen c.args.desk.now)
    (g.W.Write.contents (inner_of c.args.out.now)) (g.W.Write.contents (inner_of c.take_answer.new.out)) (seen c.take_answer.new.desk) c.take_answer.result c.take_answer.ensures.fault
    c.in-Some.request c.args.status refl c.in-Some.is c.take_answer.ensures.taken

pub returns-in-None : goal.returns-in-None
returns-in-None g c =
    entry_misplaced c.args.answer.number c.args.waiting c.args.answer.text.now (entry.Answer c.args.status) (seen c.args.desk.now)
    (g.W.Write.contents (inner_of c.args.out.now)) (g.W.Write.contents (inner_of c.tell_misplaced.new.out)) (seen c.args.desk.now) c.tell_misplaced.result
    (answer_misplaced c.args.waiting c.args.status c.in-None.is) c.tell_misplaced.ensures
