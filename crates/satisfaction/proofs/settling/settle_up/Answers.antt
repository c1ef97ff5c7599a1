use Rattle.satisfaction.proofs.Clearings.{upward}
use Rattle.satisfaction.proofs.settling.settle_up.Goals as goal

pub settle-requires-clause-begun : goal.settle-requires-clause-begun
settle-requires-clause-begun g c = upward c.args.graph.now c.requires.up.0 (g.R.Rules.listed c.args.rules.now) c.args.wait_states.now c.args.changed.now c.requires.graph c.requires.up.1 c.requires.up.2
