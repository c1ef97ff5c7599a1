use Rattle.plan_basics.specs.Watched.{inner_of}
use Rattle.desk_runs.proofs.Ending.{none_shown}
use Rattle.desk_runs.proofs.running.run_desk.Goals as goal

pub returns-in-Err : goal.returns-in-Err
returns-in-Err g c =
    none_shown c.in-Err.none (g.W.Write.contents (inner_of c.args.out.now)) (g.W.Write.contents (inner_of c.tell_no_desk.new.out)) c.tell_no_desk.result c.tell_no_desk.ensures.shown
