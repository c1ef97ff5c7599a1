use Rattle.plan_basics.specs.Watched.{inner_of}
use Rattle.tracker_http.specs.Exchange.{seen}
use Rattle.request_commands.proofs.Replayed.{line_taken}
use Rattle.request_commands.proofs.replaying.take_line.Goals as goal

pub returns-in-Ok : goal.returns-in-Ok
returns-in-Ok g c =
    line_taken c.args.taken.number c.args.waiting c.args.taken.text.now c.in-Ok.entry (seen c.args.desk.now)
    (g.W.Write.contents (inner_of c.args.out.now)) (g.W.Write.contents (inner_of c.take_entry.new.out)) (seen c.take_entry.new.desk) c.take_entry.result
    c.in-Ok.ensures c.take_entry.ensures
