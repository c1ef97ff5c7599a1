use Rattle.plan_basics.specs.Watched.{inner_of}
use Rattle.report_commands.proofs.Prospected.{of_desk}
use Rattle.report_commands.proofs.prospects.prospect_stored.Goals as goal

pub returns-in-Ok-clause-shown : goal.returns-in-Ok-clause-shown
returns-in-Ok-clause-shown g c =
    of_desk c.args.prospect (g.W.Write.contents (inner_of c.args.out.now)) (g.W.Write.contents (inner_of c.prospect_and_close.new.out)) c.prospect_and_close.result
    c.args.until c.args.minute c.in-Ok.desk.plan c.prospect_and_close.ensures.shown
