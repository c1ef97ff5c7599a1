use Rattle.std.proofs.Common.{◌≡◌, inr, sym, subst, ap, true, false, not, true≢false, ◌∙◌, List, rules}
use Rattle.std.specs.FinMap.{keys}
use Rattle.std.specs.FinSet as set
use Rattle.std.specs.List.Sorted.{IsStrictlySortedBy}
use Rattle.plan_basics.specs.Keys.{operation_cmp}
use Rattle.plan_basics.specs.declared.keys.OpKey.{OpKey}
use Rattle.derived_figures.specs.plan_changes.specs.Additions.{HasNothingOf}
use Rattle.plan_model.proofs.Entries.{entries_in_order}
use Rattle.plan_model.specs.Contents.{Contents, Pairs, pair_cmp}
use Rattle.plan_model.specs.Valid.{IsAcyclic}
use Rattle.plan_records.specs.Changes.{with_added}
use Rattle.plan_drafts.proofs.InOrder.{ends_known}
use Rattle.plan_drafts.specs.Contents.{added_of}
use Rattle.plan_checks.proofs.AdditionLines.{full_by_growth, none_by_growth, returning_by_growth}
use Rattle.plan_checks.proofs.ComingApart.{comes_apart}
use Rattle.plan_checks.proofs.Grown.{has_room, joins_operations, within_limits}
use Rattle.plan_checks.proofs.Searching.{none_told, some_told}
use Rattle.plan_checks.proofs.additions.check_grown.Goals as goal
use Rattle.plan_checks.proofs.additions.check_grown.Goals.{After-uncounted-uncounted, In_ok-pairs}

-- the plan has nothing yet of what is added
apart : (c : After-uncounted-uncounted) → HasNothingOf c.uncounted-uncounted.result.contents.now (added_of c.args.parts.now)
apart c =
    subst (λ (Q : Contents). HasNothingOf Q (added_of c.args.parts.now)) (sym c.uncounted-uncounted.ensures.contents)
    (comes_apart c.args.plan.now c.uncounted-uncounted.ensures.sound.valid (added_of c.args.parts.now) c.requires.parts.extension c.requires.new)

pub grown_keys-requires-clause-apart : goal.grown_keys-requires-clause-apart
grown_keys-requires-clause-apart c = apart (goal.at.grown_keys-requires-clause-apart c).After-uncounted-uncounted

pub grown_pairs-requires-clause-apart : goal.grown_pairs-requires-clause-apart
grown_pairs-requires-clause-apart c = apart (goal.at.grown_pairs-requires-clause-apart c).After-uncounted-uncounted

module _ (c : In_ok-pairs) where
  abbrev grown : Contents
  grown = with_added c.args.plan.now (added_of c.args.parts.now)

  keyed : (seen : List OpKey) → seen ≡ c.in_ok-keys.keys.items → seen ≡ keys grown.operations
  keyed seen same = same ∙ c.in_ok-keys.ensures ∙ ap (λ (Q : Contents). keys (with_added Q (added_of c.args.parts.now)).operations) c.uncounted-uncounted.ensures.contents

  paired : (seen : List (OpKey × OpKey)) → seen ≡ c.in_ok-pairs.pairs.items → set.from_list seen ≡ grown.pairs
  paired seen same = ap (set.from_list {R = pair_cmp}) same ∙ c.in_ok-pairs.ensures.pairs ∙ ap (λ (Q : Contents). (with_added Q (added_of c.args.parts.now)).pairs) c.uncounted-uncounted.ensures.contents

  up : (seen : List (OpKey × OpKey)) → seen ≡ c.in_ok-pairs.pairs.items → IsStrictlySortedBy pair_cmp seen
  up seen same = subst (IsStrictlySortedBy pair_cmp) (sym same) c.in_ok-pairs.ensures.in_order

pub graph_of-requires-clause-keys : goal.graph_of-requires-clause-keys
graph_of-requires-clause-keys c =
    let at = (goal.at.graph_of-requires-clause-keys c).In_ok-pairs in
    subst (IsStrictlySortedBy operation_cmp) (sym (keyed at c.deref.result.now c.deref.ensures.value)) (entries_in_order operation_cmp (grown at).operations)

pub graph_of-requires-clause-pairs : goal.graph_of-requires-clause-pairs
graph_of-requires-clause-pairs c = up (goal.at.graph_of-requires-clause-pairs c).In_ok-pairs c.deref-2.result.now c.deref-2.ensures.value

pub graph_of-requires-clause-ends : goal.graph_of-requires-clause-ends
graph_of-requires-clause-ends c =
    let at = (goal.at.graph_of-requires-clause-ends c).In_ok-pairs in
    ends_known (grown at) c.deref.result.now c.deref-2.result.now (keyed at c.deref.result.now c.deref.ensures.value) (paired at c.deref-2.result.now c.deref-2.ensures.value)
    (joins_operations c.args.plan.now c.uncounted-uncounted.ensures.sound.valid (added_of c.args.parts.now) c.requires.known)

pub returns-then-is_none-clause-refused : goal.returns-then-is_none-clause-refused
returns-then-is_none-clause-refused c =
    let at = (goal.at.returns-then-is_none-clause-refused c).In_ok-pairs in
    let yes : c.is_none.result ≡ true = search rules in
    let never = none_told _ c.in_ok-graph_of.field-0 c.in_ok-graph_of.ensures (c.is_none.ensures ∙ ap not yes) in
    inr (returning_by_growth c.args.plan.now (added_of c.args.parts.now) (λ may. never (subst (λ (z : Pairs). IsAcyclic z) (sym (paired at c.deref-2.result.now c.deref-2.ensures.value)) may)))

pub returns-then-not-is_within_limits-clause-refused : goal.returns-then-not-is_within_limits-clause-refused
returns-then-not-is_within_limits-clause-refused c =
    let at = (goal.at.returns-then-not-is_within_limits-clause-refused c).In_ok-pairs in
    let P = c.args.plan.now in
    let some : c.is_none.result ≡ false = search rules in
    let no : c.is_within_limits.result ≡ false = search rules in
    let acyclic = (some_told _ c.in_ok-graph_of.field-0 c.in_ok-graph_of.ensures (c.is_none.ensures ∙ ap not some)).1.1 in
    let ks = c.deref-else-is_none.result.now in
    let ps = c.deref-else-is_none-2.result.now in
    inr (full_by_growth P (added_of c.args.parts.now) (subst (λ (z : Pairs). IsAcyclic z) (paired at c.deref-2.result.now c.deref-2.ensures.value) acyclic)
    (λ limits.
    let room = has_room P c.uncounted-uncounted.ensures.sound.valid c.args.parts.now c.requires.parts c.requires.new ks ps (keyed at ks c.deref-else-is_none.ensures.value) (paired at ps c.deref-else-is_none-2.ensures.value) (up at ps c.deref-else-is_none-2.ensures.value) limits.0 in
    true≢false (sym (c.is_within_limits.ensures.1 (room, limits.1)) ∙ no)))

pub returns-clause-ok : goal.returns-clause-ok
returns-clause-ok c =
    let at = (goal.at.returns-clause-ok c).In_ok-pairs in
    let P = c.args.plan.now in
    let some : c.is_none.result ≡ false = search rules in
    let yes : c.is_within_limits.result ≡ true = search rules in
    let acyclic = (some_told _ c.in_ok-graph_of.field-0 c.in_ok-graph_of.ensures (c.is_none.ensures ∙ ap not some)).1.1 in
    let ks = c.deref-else-is_none.result.now in
    let ps = c.deref-else-is_none-2.result.now in
    let room = c.is_within_limits.ensures.0 yes in
    none_by_growth P (added_of c.args.parts.now) (subst (λ (z : Pairs). IsAcyclic z) (paired at c.deref-2.result.now c.deref-2.ensures.value) acyclic)
    (within_limits P c.uncounted-uncounted.ensures.sound.valid c.args.parts.now c.requires.parts c.requires.new ks ps (keyed at ks c.deref-else-is_none.ensures.value) (paired at ps c.deref-else-is_none-2.ensures.value) (up at ps c.deref-else-is_none-2.ensures.value) room.0, room.1)
