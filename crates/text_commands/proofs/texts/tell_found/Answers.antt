use Rattle.plan_basics.specs.Watched.{inner_of}
use Rattle.text_commands.proofs.Judging.{faults_shown}
use Rattle.text_commands.proofs.texts.tell_found.Goals as goal

pub returns-clause-shown : goal.returns-clause-shown
returns-clause-shown g c =
    let lines = c.in_ok-tell_lines.ensures.shown in
    faults_shown lines.0 c.args.count (g.W.Write.contents (inner_of c.args.out.now)) (g.W.Write.contents (inner_of c.tell_lines.new.out)) (g.W.Write.contents (inner_of c.tell_count.new.out)) c.tell_count.result lines.1 c.tell_count.ensures.shown
