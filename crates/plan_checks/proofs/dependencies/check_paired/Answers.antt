use Rattle.std.proofs.Common.{◌≡◌, ◌<◌, length, subst, arith, rules}
use Rattle.std.specs.FinSet as set
use Rattle.plan_basics.specs.declared.limits.TheConstants.{MOST_PAIRS}
use Rattle.plan_model.specs.Contents.{Contents}
use Rattle.plan_checks.proofs.ByPair.{AreFound, HasRow, IsBarredPair, IsToldAt, after_within, barred_by_edge, barred_by_ends, barred_by_room, before_within, handed_on, may_be_paired}
use Rattle.plan_checks.proofs.Limits.{pairs_counted}
use Rattle.plan_checks.proofs.ReachedKeys.{as_many}
use Rattle.plan_checks.proofs.Searching.{found_in}
use Rattle.status_rules.specs.declared.Status.{Status}
use Rattle.plan_checks.proofs.dependencies.check_paired.Goals as goal
use Rattle.plan_checks.proofs.dependencies.check_paired.Goals.{In_ok-after}

-- both rows, and what is reported of them
found : (c : In_ok-after) (x y : Status) → IsToldAt c.args.outline.now c.in_ok-before.before x → IsToldAt c.args.outline.now c.in_ok-after.after y
    → AreFound c.args.outline.now c.graph-graph.result.now c.in_ok-before.before c.in_ok-after.after c.args.predecessor.now c.args.successor.now x y
found c x y told_x told_y =
    let P = c.args.outline.now in
    let p = c.args.predecessor.now in
    let s = c.args.successor.now in
    let a = found_in c.place_of.result (λ i. HasRow P i p) c.in_ok-before.before c.in_ok-before.ensures.ok_part c.place_of.ensures.found in
    let b = found_in c.place_of-2.result (λ i. HasRow P i s) c.in_ok-after.after c.in_ok-after.ensures.ok_part c.place_of-2.ensures.found in
    record { valid = c.uncounted.ensures.sound.valid; graph = c.graph-graph.ensures; before = a; after = b; first = told_x p a.0 a.1; second = told_y s b.0 b.1 }

pub check_edge-requires-clause-nodes : goal.check_edge-requires-clause-nodes
check_edge-requires-clause-nodes c =
    let P = c.args.outline.now in
    let nodes = as_many P c.uncounted.ensures.sound.valid c.graph-graph.result.now c.graph-graph.ensures in
    let size = c.statuses.ensures.size in
    search rules

pub check_edge-requires-clause-before : goal.check_edge-requires-clause-before
check_edge-requires-clause-before c = before_within (found (goal.at.check_edge-requires-clause-before c).In_ok-after c.status_at.result c.status_at-2.result c.status_at.ensures c.status_at-2.ensures)

pub check_edge-requires-clause-after : goal.check_edge-requires-clause-after
check_edge-requires-clause-after c = after_within (found (goal.at.check_edge-requires-clause-after c).In_ok-after c.status_at.result c.status_at-2.result c.status_at.ensures c.status_at-2.ensures)

pub returns-in_err-check_ends-clause-refused : goal.returns-in_err-check_ends-clause-refused
returns-in_err-check_ends-clause-refused c =
    let at = found (goal.at.returns-in_err-check_ends-clause-refused c).In_ok-after c.status_at.result c.status_at-2.result c.status_at.ensures c.status_at-2.ensures in
    handed_on (IsBarredPair c.args.outline.now c.args.predecessor.now c.args.successor.now) c.from_residual-in_err-check_ends.result c.in_err-check_ends.field-0.0 c.from_residual-in_err-check_ends.ensures.1
    (barred_by_ends at c.in_err-check_ends.field-0.0 c.in_err-check_ends.ensures.refused)

pub returns-in_err-check_edge-clause-refused : goal.returns-in_err-check_edge-clause-refused
returns-in_err-check_edge-clause-refused c =
    let at = found (goal.at.returns-in_err-check_edge-clause-refused c).In_ok-after c.status_at.result c.status_at-2.result c.status_at.ensures c.status_at-2.ensures in
    handed_on (IsBarredPair c.args.outline.now c.args.predecessor.now c.args.successor.now) c.from_residual-in_err-check_edge.result c.in_err-check_edge.field-0.0 c.from_residual-in_err-check_edge.ensures.1
    (barred_by_edge at c.in_ok-check_ends.ensures.ok.0 c.in_ok-check_ends.ensures.ok.1 c.in_err-check_edge.field-0.0 c.in_err-check_edge.ensures.refused)

pub returns-then-pairs-lt-MOST_PAIRS-clause-ok : goal.returns-then-pairs-lt-MOST_PAIRS-clause-ok
returns-then-pairs-lt-MOST_PAIRS-clause-ok c =
    let at = found (goal.at.returns-then-pairs-lt-MOST_PAIRS-clause-ok c).In_ok-after c.status_at.result c.status_at-2.result c.status_at.ensures c.status_at-2.ensures in
    let room : length c.pairs-pairs.result.now < MOST_PAIRS = search rules in
    let Q = c.uncounted.result.contents.now in
    let counted : set.len Q.pairs ≡ length c.pairs-pairs.result.now = pairs_counted Q.pairs c.pairs-pairs.result.now c.pairs-pairs.ensures.pairs c.pairs-pairs.ensures.in_order in
    may_be_paired at c.in_ok-check_ends.ensures.ok.0 c.in_ok-check_ends.ensures.ok.1 c.in_ok-check_edge.ensures.ok
    (subst (λ (R : Contents). set.len R.pairs < MOST_PAIRS) c.uncounted.ensures.contents (omega (arith, counted, room)))

pub returns-else-pairs-lt-MOST_PAIRS-clause-refused : goal.returns-else-pairs-lt-MOST_PAIRS-clause-refused
returns-else-pairs-lt-MOST_PAIRS-clause-refused c =
    let at = found (goal.at.returns-else-pairs-lt-MOST_PAIRS-clause-refused c).In_ok-after c.status_at.result c.status_at-2.result c.status_at.ensures c.status_at-2.ensures in
    let full : length c.pairs-pairs.result.now < MOST_PAIRS → ⊥ = search rules in
    let Q = c.uncounted.result.contents.now in
    let counted : set.len Q.pairs ≡ length c.pairs-pairs.result.now = pairs_counted Q.pairs c.pairs-pairs.result.now c.pairs-pairs.ensures.pairs c.pairs-pairs.ensures.in_order in
    barred_by_room at c.in_ok-check_ends.ensures.ok.0 c.in_ok-check_ends.ensures.ok.1 c.in_ok-check_edge.ensures.ok
    (subst (λ (R : Contents). set.len R.pairs < MOST_PAIRS → ⊥) c.uncounted.ensures.contents (λ room. full (omega (arith, counted, room))))
