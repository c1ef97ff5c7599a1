use Rattle.std.proofs.Common.{rules, ◌≡◌, refl, ◌+◌, inl, inr, arith, length}
use Rattle.std.proofs.lemmas.Bool.{cases_eq}
use Rattle.std.proofs.lemmas.List.Sorted.{IsNonDecreasingBy-from_sort_by_key}
use Rattle.std.proofs.lemmas.Option.{slice_get_within}
use Rattle.latest_start.specs.NodeStarts.{AreLatestStartsOf}
use Rattle.latest_start.proofs.Changing.{values_ascend, values_moved}
use Rattle.latest_start.proofs.AsBefore.{spread_begun}
use Rattle.latest_start.proofs.Queueing.{total}
use Rattle.latest_start.proofs.Settling.{consistent_latest}
use Rattle.latest_start.proofs.spreading.changed_starts.Goals as goal

pub settle-requires-clause-spread : goal.settle-requires-clause-spread
settle-requires-clause-spread c =
    let g = c.args.graph.now in
    let items = c.args.items.now in
    let old = c.args.old.now in
    let s = c.in_ok-spread.spread in
    let b = c.in_ok-spread.ensures in
    let begun = spread_begun g items c.requires.items old s.starts.items b.kept c.args.changed.now c.requires.changed (length items) c.requires.items s b refl in
    (total g.ranks + 1, c.in_ok-queue_all.ensures.step items old (total g.ranks + 1) begun)

pub returns-clause-values : goal.returns-clause-values
returns-clause-values c =
    let g = c.args.graph.now in
    let items = c.args.items.now in
    let old = c.args.old.now in
    let starts = c.settle.new.self.starts.items in
    let size : length starts ≡ g.nodes = c.in_ok-settle.ensures.size.0 in
    let right : AreLatestStartsOf g items starts = elim (cases_eq g.nodes 0) [
      | inl none ↦ record {
        size = size;
        each = λ n v at. absurd (omega (arith, slice_get_within starts n v at, size, none));
      }
      | inr some ↦ consistent_latest g items (c.known_graph.ensures (omega (arith, some, c.requires.items))) starts size c.in_ok-settle.ensures.consistent
    ] in
    (starts, values_moved old starts c.settle.new.self.values.items c.sort_unstable_by_key.new.self.items c.sort_unstable_by_key.ensures.permutation c.in_ok-settle.ensures.values, right)

pub returns-clause-order : goal.returns-clause-order
returns-clause-order c =
    let values = c.sort_unstable_by_key.new.self.items in
    let rises = IsNonDecreasingBy-from_sort_by_key (λ x. x.0) values c.sort_unstable_by_key.ensures.sorted (λ a r q k. search rules) in
    values_ascend values rises (values_moved c.args.old.now c.settle.new.self.starts.items c.settle.new.self.values.items values c.sort_unstable_by_key.ensures.permutation c.in_ok-settle.ensures.values).once
