use Rattle.desk_runs.proofs.Continuing.{continues_none}
use Rattle.desk_runs.proofs.Followed.{still_first}
use Rattle.desk_runs.proofs.polling.serve_polled.Goals as goal

pub loop-init : goal.loop-init
loop-init g c = record {
  continues = continues_none g.S.Store c.args.desk.now;
  usable = λ was. was;
  known = still_first c.args.desk.now.plan c.args.terms.now c.requires.known;
}
