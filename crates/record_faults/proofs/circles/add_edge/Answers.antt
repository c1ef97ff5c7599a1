use Rattle.std.proofs.Common.{◌+◌, sym, subst}
use Rattle.record_faults.specs.Circles.{IsEdgeAt, AreEdgesBelow}
use Rattle.record_faults.proofs.Circling.{edges_none, edges_more}
use Rattle.record_faults.proofs.circles.add_edge.Goals as goal

pub returns-in_default : goal.returns-in_default
returns-in_default c = λ keys n at are. edges_none keys n c.args.edges.now.items (subst (IsEdgeAt keys n) c.in_default.is at) are

pub returns : goal.returns
returns c = λ keys n at are. subst (AreEdgesBelow keys (n + 1)) (sym c.in_ok-extend_from_slice.ensures.items) (edges_more keys n c.args.edges.now.items c.in-Some.edge (subst (IsEdgeAt keys n) c.in-Some.is at) are)
