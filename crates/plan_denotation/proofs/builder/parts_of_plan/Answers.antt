use Rattle.std.proofs.Common.{◌∙◌, ap, sym, subst, refl, true≢false, All}
use Rattle.std.proofs.Math.Path.{transport}
use Rattle.std.specs.List.{filter_map}
use Rattle.std.specs.Map.{keys_of}
use Rattle.plan_drafts.specs.PlanItems.{AreWorkstationsInOrder, AreResourcesInOrder, AreOccurrencesInOrder, AreOperations, AreRowsOf, AreNeedsInOrder, IsNeedIn, IsWithinStock, ArePairs, ArePairsInOrder}
use Rattle.plan_drafts.specs.PlanItems.{as_interval, as_need, as_occurrence, as_operation, as_resource, as_workstation}
use Rattle.plan_drafts.specs.Contents.{Rows}
use Rattle.plan_drafts.specs.PlanGraphs.{IsGraphFor, IsGraphOf}
use Rattle.plan_model.specs.Contents.{Contents, pair_cmp}
use Rattle.std.specs.FinSet.{from_list}
use Rattle.plan_denotation.proofs.InOrder.{row_keys}
use Rattle.plan_denotation.proofs.Assembling.{no_operations, no_needs, no_amounts, no_pairs, rows_are_of}
use Rattle.plan_denotation.proofs.builder.parts_of_plan.Goals as goal
use Rattle.plan_denotation.proofs.builder.parts_of_plan.Goals.{In-Some, In-Some-2, In-Some-3, In-Some-4, In-Some-5}

-- the workstations in order
stations : (c : In-Some) → AreWorkstationsInOrder (filter_map as_workstation c.args.items.now) (filter_map as_interval c.args.items.now) c.in-Some.workstations.items
stations c =
    let opened = rw c.in-Some.is at c.in_ok-workstations-2.ensures in
    transport (λ i. AreWorkstationsInOrder (c.in_ok-workstations.ensures i) ((c.deref.ensures.value ∙ c.in_ok-intervals.ensures) i) c.in-Some.workstations.items) opened

-- the special resources in order
resources : (c : In-Some-2) → AreResourcesInOrder (filter_map as_resource c.args.items.now) c.in-Some-2.resources.items
resources c = let named = rw c.in-Some-2.is at c.in_ok-resources-2.ensures in transport (λ i. AreResourcesInOrder (c.in_ok-resources.ensures i) c.in-Some-2.resources.items) named

-- the occurrences in order
occurrences : (c : In-Some-3) → AreOccurrencesInOrder (filter_map as_occurrence c.args.items.now) c.in-Some-3.occurrences.items
occurrences c = let ordered = rw c.in-Some-3.is at c.in_ok-occurrences-2.ensures in transport (λ i. AreOccurrencesInOrder (c.in_ok-occurrences.ensures i) c.in-Some-3.occurrences.items) ordered

-- the needs in order
needs : (c : In-Some-4) → AreNeedsInOrder (filter_map as_need c.args.items.now) c.in-Some-4.needs.items
needs c = let sorted = rw c.in-Some-4.is at c.in_ok-needs-2.ensures in transport (λ i. AreNeedsInOrder (c.in_ok-needs.ensures i) c.in-Some-4.needs.items) sorted

-- the operations' rows in order
rows : (c : In-Some-5) → AreRowsOf (keys_of c.in-Some.workstations.items) c.in-Some-3.occurrences.items c.in-Some-4.needs.items (filter_map as_operation c.args.items.now) c.in-Some-5.operations.items
rows c =
    let said = c.in_ok-said.ensures in
    let made = rw c.in-Some-5.is at c.in_ok-operations.ensures in
    transport (λ i. AreRowsOf (keys_of (c.deref-2.ensures.value i)) (c.deref-3.ensures.value i) (c.deref-4.ensures.value i) (said i) c.in-Some-5.operations.items) made

pub returns-in_default-5 : goal.returns-in_default-5
returns-in_default-5 c =
    let at = goal.at.returns-in_default-5 c in
    let said = c.in_ok-said.ensures in
    let none = rw c.in_default-5.is at c.in_ok-operations.ensures in
    no_operations c.args.items.now c.in-Some.workstations.items c.in-Some-3.occurrences.items c.in-Some-4.needs.items (stations at.In-Some) (occurrences at.In-Some-3) (needs at.In-Some-4)
    (transport (λ i. ¬ AreOperations (keys_of (c.deref-2.ensures.value i)) (c.deref-3.ensures.value i) (c.deref-4.ensures.value i) (said i)) none)

pub returns-then-not-are_needs_in : goal.returns-then-not-are_needs_in
returns-then-not-are_needs_in c =
    let at = goal.at.returns-then-not-are_needs_in c in
    let keyed = c.deref-6.ensures.value ∙ c.in_ok-keys.ensures ∙ ap keys_of c.deref-5.ensures.value in
    no_needs c.args.items.now (keys_of c.in-Some.workstations.items) c.in-Some-3.occurrences.items c.in-Some-2.resources.items c.in-Some-4.needs.items c.in-Some-5.operations.items
    (resources at.In-Some-2) (needs at.In-Some-4) (rows at.In-Some-5)
    (λ all. true≢false (sym (c.if-not-are_needs_in.ensures.1 (transport (λ i. All (IsNeedIn (sym keyed i) (keys_of (sym c.deref-7.ensures.value i))) (sym c.deref-8.ensures.value i)) all))))

pub returns-then-not-amounts_fit : goal.returns-then-not-amounts_fit
returns-then-not-amounts_fit c =
    let at = goal.at.returns-then-not-amounts_fit c in
    no_amounts c.args.items.now c.in-Some-2.resources.items c.in-Some-4.needs.items (resources at.In-Some-2) (needs at.In-Some-4)
    (λ all. true≢false (sym (c.if-not-amounts_fit.ensures.1 (transport (λ i. All (IsWithinStock (sym c.deref-9.ensures.value i)) (sym c.deref-10.ensures.value i)) all))))

pub returns-in_default-6 : goal.returns-in_default-6
returns-in_default-6 c =
    let at = goal.at.returns-in_default-6 c in
    let keyed = c.deref-11.ensures.value ∙ c.in_ok-keys.ensures ∙ ap keys_of c.deref-5.ensures.value in
    let none = rw c.in_default-6.is at c.in_ok-joined.ensures in
    no_pairs c.args.items.now (keys_of c.in-Some.workstations.items) c.in-Some-3.occurrences.items c.in-Some-4.needs.items c.in-Some-5.operations.items (rows at.In-Some-5)
    (transport (λ i. ¬ ArePairs (keyed i) (c.in_ok-pairs.ensures i)) none)

pub returns : goal.returns
returns c =
    let at = goal.at.returns c in
    let keyed = c.in_ok-keys.ensures ∙ ap keys_of c.deref-5.ensures.value in
    let in_reach = c.deref-6.ensures.value ∙ keyed in
    let within = transport (λ i. All (IsNeedIn (in_reach i) (keys_of (c.deref-7.ensures.value i))) (c.deref-8.ensures.value i)) (c.if-not-are_needs_in.ensures.0 refl) in
    let amounts = transport (λ i. All (IsWithinStock (c.deref-9.ensures.value i)) (c.deref-10.ensures.value i)) (c.if-not-amounts_fit.ensures.0 refl) in
    let checked = rw c.in-Some-6.is at c.in_ok-joined.ensures in
    let paired = c.deref-11.ensures.value ∙ keyed in
    let pairs = transport (λ i. ArePairsInOrder (paired i) (c.in_ok-pairs.ensures i) c.in-Some-6.joined.0.items) checked.0 in
    let rows_read : Rows = record { workstations = c.in-Some.workstations.items; resources = c.in-Some-2.resources.items; occurrences = c.in-Some-3.occurrences.items; operations = c.in-Some-5.operations.items; pairs = c.in-Some-6.joined.0.items } in
    let graph = subst (λ ks. IsGraphOf ks (from_list {R = pair_cmp} c.in-Some-6.joined.0.items) c.in-Some-6.joined.1) (sym (row_keys c.in-Some-5.operations.items (rows at.In-Some-5).in_order))
    (subst (λ ks. IsGraphOf ks (from_list {R = pair_cmp} c.in-Some-6.joined.0.items) c.in-Some-6.joined.1) paired checked.1) in (
      (rows_read, rows_are_of c.args.items.now rows_read c.in-Some-4.needs.items (stations at.In-Some) (resources at.In-Some-2) (occurrences at.In-Some-3) (needs at.In-Some-4) (rows at.In-Some-5) within amounts pairs, c.of_rows-contents.ensures),
      subst (λ (P : Contents). IsGraphFor P c.in-Some-6.joined.1) (sym c.of_rows-contents.ensures) graph,
    )
