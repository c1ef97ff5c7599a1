use Rattle.std.proofs.Common.{rules, arith, ◌≡◌, ◌<◌, ◌+◌, ℕ, ap, ◌∙◌, refl, length, slice_index_or}
use Rattle.std.proofs.lemmas.Option.{slice_get-get_or}
use Rattle.std.specs.FinMap.{entries}
use Rattle.std.specs.FinSet.{from_list}
use Rattle.plan_model.specs.Contents.{Contents, pair_cmp}
use Rattle.plan_status.specs.Summaries.{IsSummarizedBy}
use Rattle.plan_status.proofs.InTurn.{AreAllInTurn, IsPairAt, all_lent, comes_after, ends_within, few_edges, pair_below, pair_of, pairs_all, pairs_more, pairs_so_far}
use Rattle.plan_status.proofs.LoadedRows.{few_rows}
use Rattle.plan_status.proofs.RowKeys.{row_lent}
use Rattle.plan_status.proofs.RowStandings.{at_most_first, at_most_more, standing_at, standings_all, standings_first, standings_more}
use Rattle.plan_status.proofs.standings.standings_of.Goals as goal
use Rattle.plan_status.proofs.standings.standings_of.Goals.{After-deref-before-items}

pub loop-before-init : goal.loop-before-init
loop-before-init c P plan =
    let n = length c.args.summaries.now in
    let all = c.in_ok-standings.ensures.items_if_clones_equal (λ y h. search rules) in
    record {
      so_far = standings_first P n c.in_ok-standings.standings.items plan.summaries.size all;
      at_most = at_most_first n c.in_ok-standings.standings.items all;
    }

-- all edges of the graph, in turn
all_edges : (c : After-deref-before-items) → AreAllInTurn c.args.graph.now c.deref-before-items.result.now
all_edges c = all_lent c.args.graph.now c.deref-before-items.result.now _ c.deref-before-items.ensures.value c.in_ok-edges_in_turn.ensures.edges c.in_ok-edges_in_turn.ensures.in_turn

-- the edge at an index
abbrev edge : After-deref-before-items → ℕ → ℕ × ℕ
edge c i = slice_index_or c.deref-before-items.result.now i (0, 0)

-- a plan that is briefed so
module _ (c : After-deref-before-items) (P : Contents) (plan : IsSummarizedBy P c.args.graph.now c.args.summaries.now) where
  joined : (i : ℕ) → i < length c.deref-before-items.result.now → IsPairAt P (edge c i)
  joined i lt = pair_below P plan.valid c.args.graph.now plan.graph c.deref-before-items.result.now (all_edges c) i lt

  -- the ends of an edge are within the summaries
  within : (i : ℕ) → i < length c.deref-before-items.result.now → ((edge c i).0 < length c.args.summaries.now) × ((edge c i).1 < length c.args.summaries.now)
  within i lt =
      let ends = ends_within P (edge c i) (joined i lt) in
      (omega (arith, ends.0, plan.summaries.size), omega (arith, ends.1, plan.summaries.size))

pub bounds-summaries-before : goal.bounds-summaries-before
bounds-summaries-before c =
    let a : After-deref-before-items = (goal.at.bounds-summaries-before c).After-deref-before-items in
    (within a c.requires.0 c.requires.1 c.loop-before.before-index c.loop-before-test.true).0

pub offset_bounds-summaries-before : goal.offset_bounds-summaries-before
offset_bounds-summaries-before c =
    let P = c.requires.0 in
    let plan = c.requires.1 in
    let a : After-deref-before-items = (goal.at.offset_bounds-summaries-before c).After-deref-before-items in
    let lt = (within a P plan c.loop-before.before-index c.loop-before-test.true).0 in
    omega (arith, lt, plan.summaries.size, few_rows P plan.valid)

pub index-requires : goal.index-requires
index-requires c =
    let a : After-deref-before-items = (goal.at.index-requires c).After-deref-before-items in
    let lt = (within a c.requires.0 c.requires.1 c.loop-before.before-index c.loop-before-test.true).1 in
    let size = (c.loop-before.invariant c.requires.0 c.requires.1).so_far.size in
    omega (arith, lt, size, c.requires.1.summaries.size, c.loop-before.standings.ok.0)

pub index-requires-in-loop-before : goal.index-requires-in-loop-before
index-requires-in-loop-before c =
    let a : After-deref-before-items = (goal.at.index-requires-in-loop-before c).After-deref-before-items in
    let lt = (within a c.requires.0 c.requires.1 c.loop-before.before-index c.loop-before-test.true).0 in
    let size = (c.loop-before.invariant c.requires.0 c.requires.1).so_far.size in
    omega (arith, lt, size, c.requires.1.summaries.size, c.loop-before.standings.ok.0)

pub index_mut-requires : goal.index_mut-requires
index_mut-requires c =
    let a : After-deref-before-items = (goal.at.index_mut-requires c).After-deref-before-items in
    let lt = (within a c.requires.0 c.requires.1 c.loop-before.before-index c.loop-before-test.true).1 in
    let size = (c.loop-before.invariant c.requires.0 c.requires.1).so_far.size in
    omega (arith, lt, size, c.requires.1.summaries.size, c.loop-before.standings.ok.0)

pub standing_after-requires : goal.standing_after-requires
standing_after-requires c =
    let P = c.requires.0 in
    let plan = c.requires.1 in
    let rows = entries P.operations in
    let a : After-deref-before-items = (goal.at.standing_after-requires c).After-deref-before-items in
    let e = edge a c.loop-before.before-index in
    let pair = joined a P plan c.loop-before.before-index c.loop-before-test.true in
    let standing = c.index.result.now in
    let invariant = c.loop-before.invariant P plan in
    let here = standing_at rows e.1 ((pair_of rows e).1, pair.after) pair.second c.loop-before.standings.items invariant.so_far.size standing c.index.ensures in
    let most = invariant.at_most e.1 standing here in
    let few = few_edges P plan.valid c.args.graph.now plan.graph c.deref-before-items.result.now (all_edges a) in
    omega (arith, c.loop-before-test.true, few, most)

pub loop-before-preserved : goal.loop-before-preserved
loop-before-preserved c P plan =
    let graph = c.args.graph.now in
    let summaries = c.args.summaries.now in
    let edges = c.deref-before-items.result.now in
    let i = c.loop-before.before-index in
    let a : After-deref-before-items = (goal.at.loop-before-preserved c).After-deref-before-items in
    let e = edge a i in
    let lt = c.loop-before-test.true in
    let all = all_edges a in
    let at = slice_get-get_or edges i (0, 0) lt in
    let pair = joined a P plan i lt in
    let rows = entries P.operations in
    let keys = pair_of rows e in
    let summary = c.index-summaries-before.result in
    let is_summary = row_lent summaries summaries refl e.0 summary (within a P plan i lt).0 c.index-summaries-before.is in
    let has = plan.summaries.each e.0 keys.0 pair.before summary pair.first is_summary in
    let standings = c.loop-before.standings.items in
    let invariant = c.loop-before.invariant P plan in
    let so_far = invariant.so_far in
    let its = c.index-in-loop-before.result.now in
    let standing = c.index.result.now in
    let is_its = standing_at rows e.0 (keys.0, pair.before) pair.first standings so_far.size its c.index-in-loop-before.ensures in
    let is_standing = standing_at rows e.1 (keys.1, pair.after) pair.second standings so_far.size standing c.index.ensures in
    let before = pairs_so_far rows edges i in
    let next = comes_after P plan.valid graph plan.graph edges all i lt e at in
    let stands = c.standing_after.ensures.standing P before keys has next
    (so_far.each e.0 keys.0 pair.before its pair.first is_its) (so_far.each e.1 keys.1 pair.after standing pair.second is_standing) in
    let more = pairs_more P plan.valid graph plan.graph edges all i lt e at in
    record {
      so_far = standings_more P before keys next e.1 pair.after pair.second standings so_far c.standing_after.result stands (pairs_so_far rows edges (i + 1)) more;
      at_most = at_most_more i standings e.1 standing.waiting c.standing_after.result invariant.at_most (invariant.at_most e.1 standing is_standing) c.standing_after.ensures.waiting;
    }

pub returns-clause-standings : goal.returns-clause-standings
returns-clause-standings c P plan =
    let graph = c.args.graph.now in
    let edges = c.deref-before-items.result.now in
    let all = all_edges ((goal.at.returns-clause-standings c).After-deref-before-items) in
    let n = c.loop-before.before-index in
    let past = c.loop-before-test.false in
    let is : n ≡ length edges = omega (arith, past, c.loop-before.auto.before-index-end) in
    standings_all P (pairs_so_far (entries P.operations) edges n) c.loop-before.standings.items
    (ap (λ k. from_list {R = pair_cmp} (pairs_so_far (entries P.operations) edges k)) is ∙ pairs_all P plan.valid graph plan.graph edges all) (c.loop-before.invariant P plan).so_far
