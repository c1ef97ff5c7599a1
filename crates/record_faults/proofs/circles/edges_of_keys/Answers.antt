use Rattle.record_faults.proofs.circles.edges_of_keys.Goals as goal

pub loop-place-preserved : goal.loop-place-preserved
loop-place-preserved c = c.in_ok-add_edge.ensures c.args.keys.now c.loop-place.place c.edge_of.ensures c.loop-place.invariant
