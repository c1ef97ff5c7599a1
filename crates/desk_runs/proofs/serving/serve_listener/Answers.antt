use Rattle.desk_runs.proofs.Continuing.{continues_none}
use Rattle.desk_runs.proofs.serving.serve_listener.Goals as goal

pub loop-init : goal.loop-init
loop-init g c = record {
  continues = continues_none g.S.Store c.args.desk.now;
}
