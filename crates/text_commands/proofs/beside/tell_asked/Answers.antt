use Rattle.plan_basics.specs.Watched.{inner_of}
use Rattle.text_commands.specs.Beside.{Takes}
use Rattle.text_commands.proofs.JudgedBeside.{shown_taken}
use Rattle.text_commands.proofs.beside.tell_asked.Goals as goal

pub returns-in-None-clause-shown : goal.returns-in-None-clause-shown
returns-in-None-clause-shown g c =
    let told = c.in_ok-refusal_of_text.ensures.told in
    let takes : Takes c.args.plan.now.plan told.0 = rw c.in-None.is at told.2 in
    shown_taken c.args.plan.now.plan c.args.text.now (g.W.Write.contents (inner_of c.args.out.now)) (g.W.Write.contents (inner_of c.tell_found.new.out)) c.tell_found.result
    told.0 told.1 takes c.tell_found.ensures.shown
