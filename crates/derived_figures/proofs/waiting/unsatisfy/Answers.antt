use Rattle.derived_figures.proofs.WaitingMoved.{taken_back}
use Rattle.derived_figures.proofs.Right.{kept_on_ok}
use Rattle.derived_figures.proofs.waiting.unsatisfy.Goals as goal

pub rerun-requires-clause-rerun : goal.rerun-requires-clause-rerun
rerun-requires-clause-rerun c = taken_back c.requires.moved.0 c.args.records.now.contents c.args.graph.now c.requires.graph c.args.wait_states.now c.args.places.now c.requires.moved.1

pub returns-clause-wait_states : goal.returns-clause-wait_states
returns-clause-wait_states c = kept_on_ok c.args.records.now.contents c.args.graph.now c.requires.graph c.rerun.result c.rerun.new.wait_states c.rerun.ensures.right
