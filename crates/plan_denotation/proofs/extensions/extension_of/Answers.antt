use Rattle.std.proofs.Common.{◌≢◌, ◌∙◌, ap, sym, subst, refl, true≢false, List, All, rules}
use Rattle.std.specs.List.{AllPairs}
use Rattle.std.specs.List.Sorted.{IsStrictlySortedBy}
use Rattle.plan_basics.specs.Keys.{occurrence_cmp}
use Rattle.std.proofs.Math.Path.{transport}
use Rattle.std.specs.List.{filter_map}
use Rattle.std.specs.Map.{keys_of}
use Rattle.plan_basics.specs.declared.keys.OccKey.{OccKey}
use Rattle.plan_model.specs.declared.Occurrence.{Occurrence}
use Rattle.plan_drafts.specs.PlanItems.{AreNeedsInOrder, as_need, as_occurrence, as_operation}
use Rattle.plan_drafts.specs.ExtensionItems.{IsNeedOf, ArePairsAmong, ArePairsAmongInOrder, AreTheirOperations, AreTheirRows}
use Rattle.plan_denotation.proofs.JoinedParts.{AreInOrder, no_needs_join, no_operations_join, no_pairs_join, parts_join}
use Rattle.plan_denotation.proofs.extensions.extension_of.Goals as goal
use Rattle.plan_denotation.proofs.extensions.extension_of.Goals.{In-Some, In-Some-2, In-Some-3}

pub returns-then-not-may_all_come_in : goal.returns-then-not-may_all_come_in
returns-then-not-may_all_come_in c = λ can. true≢false (sym (c.if-not-may_all_come_in.ensures.1 can.may))

-- the occurrences in order
ordered : (c : In-Some) → AreInOrder (filter_map as_occurrence c.args.items.now) c.in-Some.occurrences.items
ordered c =
    let sorted = rw c.in-Some.is at c.in_ok-occurrences-2.ensures (λ (row : OccKey × Occurrence). row.0) (λ x r h. search rules) in
    transport (λ i. AreInOrder (c.in_ok-occurrences.ensures i) c.in-Some.occurrences.items) sorted

pub returns-in_default : goal.returns-in_default
returns-in_default c = λ can.
    let told = rw c.in_default.is at c.in_ok-occurrences-2.ensures (λ (row : OccKey × Occurrence). row.0) (λ x r h. search rules) in
    told (subst (AllPairs (λ (a b : OccKey × Occurrence). a.0 ≢ b.0)) (sym c.in_ok-occurrences.ensures) can.occurrences)

pub their_rows-requires-clause-in_order : goal.their_rows-requires-clause-in_order
their_rows-requires-clause-in_order c =
    let at = goal.at.their_rows-requires-clause-in_order c in
    subst (λ (rows : List (OccKey × Occurrence)). IsStrictlySortedBy occurrence_cmp (keys_of rows)) (sym c.deref.ensures.value) (ordered at.In-Some).in_order

pub pairs_among-requires-clause-occurrences : goal.pairs_among-requires-clause-occurrences
pairs_among-requires-clause-occurrences c =
    let at = goal.at.pairs_among-requires-clause-occurrences c in
    subst (λ (rows : List (OccKey × Occurrence)). IsStrictlySortedBy occurrence_cmp (keys_of rows)) (sym c.deref-6.ensures.value) (ordered at.In-Some).in_order

-- the needs in order
needs : (c : In-Some-2) → AreNeedsInOrder (filter_map as_need c.args.items.now) c.in-Some-2.needs.items
needs c = let sorted = rw c.in-Some-2.is at c.in_ok-needs-2.ensures in transport (λ i. AreNeedsInOrder (c.in_ok-needs.ensures i) c.in-Some-2.needs.items) sorted

-- the operations' rows in order
rows : (c : In-Some-3) → AreTheirRows c.in-Some.occurrences.items c.in-Some-2.needs.items (filter_map as_operation c.args.items.now) c.in-Some-3.operations.items
rows c =
    let made = rw c.in-Some-3.is at c.in_ok-operations.ensures in
    transport (λ i. AreTheirRows (c.deref.ensures.value i) (c.deref-2.ensures.value i) (c.in_ok-said.ensures i) c.in-Some-3.operations.items) made

pub returns-in_default-3 : goal.returns-in_default-3
returns-in_default-3 c =
    let at = goal.at.returns-in_default-3 c in
    let none = rw c.in_default-3.is at c.in_ok-operations.ensures in
    no_operations_join c.args.items.now c.in-Some.occurrences.items (ordered at.In-Some) c.in-Some-2.needs.items (needs at.In-Some-2)
    (transport (λ i. ¬ AreTheirOperations (c.deref.ensures.value i) (c.deref-2.ensures.value i) (c.in_ok-said.ensures i)) none)

pub returns-then-not-are_needs_of : goal.returns-then-not-are_needs_of
returns-then-not-are_needs_of c =
    let at = goal.at.returns-then-not-are_needs_of c in
    let keyed = c.deref-4.ensures.value ∙ c.in_ok-keys.ensures ∙ ap keys_of c.deref-3.ensures.value in
    no_needs_join c.args.items.now c.in-Some.occurrences.items (ordered at.In-Some) c.in-Some-2.needs.items (needs at.In-Some-2) c.in-Some-3.operations.items (rows at.In-Some-3)
    (λ all. true≢false (sym (c.if-not-are_needs_of.ensures.1 (transport (λ i. All (IsNeedOf (sym keyed i)) (sym c.deref-5.ensures.value i)) all))))

pub returns-in_default-4 : goal.returns-in_default-4
returns-in_default-4 c =
    let at = goal.at.returns-in_default-4 c in
    let keyed = c.deref-7.ensures.value ∙ c.in_ok-keys.ensures ∙ ap keys_of c.deref-3.ensures.value in
    let none = rw c.in_default-4.is at c.in_ok-pairs-2.ensures in
    no_pairs_join c.args.items.now c.in-Some.occurrences.items (ordered at.In-Some) c.in-Some-2.needs.items (needs at.In-Some-2) c.in-Some-3.operations.items (rows at.In-Some-3)
    (transport (λ i. ¬ ArePairsAmong (keys_of (c.deref-6.ensures.value i)) (keyed i) (c.in_ok-pairs.ensures i)) none)

pub returns : goal.returns
returns c =
    let at = goal.at.returns c in
    let keyed = c.in_ok-keys.ensures ∙ ap keys_of c.deref-3.ensures.value in
    let in_reach = c.deref-4.ensures.value ∙ keyed in
    let within = transport (λ i. All (IsNeedOf (in_reach i)) (c.deref-5.ensures.value i)) (c.if-not-are_needs_of.ensures.0 refl) in
    let checked = rw c.in-Some-4.is at c.in_ok-pairs-2.ensures in
    let paired = c.deref-7.ensures.value ∙ keyed in
    let pairs = transport (λ i. ArePairsAmongInOrder (keys_of (c.deref-6.ensures.value i)) (paired i) (c.in_ok-pairs.ensures i) c.in-Some-4.pairs.items) checked in
    parts_join c.args.items.now _ c.in-Some-2.needs.items (c.if-not-may_all_come_in.ensures.0 refl) (ordered at.In-Some) (needs at.In-Some-2) (rows at.In-Some-3) within pairs
