use Rattle.derived_figures.proofs.WaitingMoved.{upward}
use Rattle.derived_figures.proofs.Right.{kept_on_ok}
use Rattle.derived_figures.proofs.waiting.satisfy.Goals as goal

pub settle_up-requires-clause-up : goal.settle_up-requires-clause-up
settle_up-requires-clause-up c = upward c.requires.moved.0 c.args.records.now.contents c.args.graph.now c.requires.graph c.args.wait_states.now c.args.places.now c.requires.moved.1

pub returns-clause-wait_states : goal.returns-clause-wait_states
returns-clause-wait_states c = kept_on_ok c.args.records.now.contents c.args.graph.now c.requires.graph c.settle_up.result c.settle_up.new.wait_states c.settle_up.ensures.right
