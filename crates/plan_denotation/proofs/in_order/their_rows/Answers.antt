use Rattle.std.proofs.Common.{◌∙◌, sym, subst, ap, map, All, true≢false, refl, rules}
use Rattle.std.specs.List.Sorted.{IsStrictlySortedBy}
use Rattle.std.specs.Map.{keys_of}
use Rattle.std.proofs.lemmas.List.Sorted.{IsPermutation-sym}
use Rattle.plan_basics.specs.Keys.{operation_cmp}
use Rattle.plan_items.specs.declared.OperationItem.{OperationItem}
use Rattle.plan_drafts.specs.PlanItems.{BelongsTo, EachHasOperation, keys_said, row_of}
use Rattle.plan_drafts.specs.KeyOrder.{AreInKeyOrder}
use Rattle.plan_denotation.proofs.InOrder.{has_over, operation_in, permuted_all, rows_ordered}
use Rattle.plan_drafts.proofs.Keyed.{key_to_row, row_to_key, said_apart}
use Rattle.plan_denotation.proofs.in_order.their_rows.Goals as goal
use Rattle.plan_denotation.proofs.in_order.their_rows.Goals.{In-Some, In-Some-2}

-- what is said, in key order
sorted : (c : In-Some) → AreInKeyOrder operation_cmp (λ (s : OperationItem). s.key) c.args.said.items c.in-Some.said.items
sorted c = rw c.in-Some.is at c.in_ok-said.ensures (λ (s : OperationItem). s.key) (λ x r h. search rules)

-- the rows in key order
ordered : (c : In-Some-2) → AreInKeyOrder operation_cmp (λ row. row.0) (map (row_of c.args.occurrences.now c.args.needs.now) c.args.said.items) c.in-Some-2.rows.items
ordered c =
    let made = rw c.in-Some-2.is at c.in_ok-rows.ensures in
    rows_ordered c.args.occurrences.now c.args.needs.now c.args.said.items c.in-Some.said.items c.in-Some-2.rows.items (sorted (goal.at.In-Some-2 c).In-Some)
    (made.1 ∙ ap (map (row_of c.args.occurrences.now c.args.needs.now)) c.deref.ensures.value)

-- all belong to one of the occurrences
belong : (c : In-Some-2) → All (BelongsTo c.args.occurrences.now c.args.needs.now) c.args.said.items
belong c =
    let made = rw c.in-Some-2.is at c.in_ok-rows.ensures in
    let same = (sorted (goal.at.In-Some-2 c).In-Some).same in
    permuted_all (BelongsTo c.args.occurrences.now c.args.needs.now) c.in-Some.said.items c.args.said.items (IsPermutation-sym c.args.said.items c.in-Some.said.items same)
    (subst (All (BelongsTo c.args.occurrences.now c.args.needs.now)) c.deref.ensures.value made.0)

pub returns-in_default : goal.returns-in_default
returns-in_default c = λ are. (rw c.in_default.is at c.in_ok-said.ensures (λ (s : OperationItem). s.key) (λ x r h. search rules)) are.distinct

pub returns-in_default-2 : goal.returns-in_default-2
returns-in_default-2 c = λ are.
    let same = (sorted (goal.at.returns-in_default-2 c).In-Some).same in
    (rw c.in_default-2.is at c.in_ok-rows.ensures)
    (subst (All (BelongsTo c.args.occurrences.now c.args.needs.now)) (sym c.deref.ensures.value) (permuted_all (BelongsTo c.args.occurrences.now c.args.needs.now) c.args.said.items c.in-Some.said.items same are.belong))

pub each_has_operation-requires : goal.each_has_operation-requires
each_has_operation-requires c =
    let keyed = c.deref-3.ensures.value ∙ c.in_ok-keys.ensures ∙ ap keys_of c.deref-2.ensures.value in
    subst (IsStrictlySortedBy operation_cmp) (sym keyed) (ordered (goal.at.each_has_operation-requires c).In-Some-2).in_order

pub returns-then-not-each_has_operation : goal.returns-then-not-each_has_operation
returns-then-not-each_has_operation c = λ are.
    let keyed = c.deref-3.ensures.value ∙ c.in_ok-keys.ensures ∙ ap keys_of c.deref-2.ensures.value in
    let same = (ordered (goal.at.returns-then-not-each_has_operation c).In-Some-2).same in
    let rows = key_to_row (λ (s : OperationItem). s.key) (operation_in c.args.occurrences.now c.args.needs.now) c.args.said.items c.in-Some-2.rows.items same in
    true≢false (sym (c.if-not-each_has_operation.ensures.1 (subst (λ ks. EachHasOperation ks c.args.occurrences.now) (sym keyed) (has_over (keys_said c.args.said.items) (keys_of c.in-Some-2.rows.items) c.args.occurrences.now rows are.not_empty))))

pub returns : goal.returns
returns c =
    let keyed = c.deref-3.ensures.value ∙ c.in_ok-keys.ensures ∙ ap keys_of c.deref-2.ensures.value in
    let up = ordered (goal.at.returns c).In-Some-2 in
    let make = operation_in c.args.occurrences.now c.args.needs.now in
    let has = subst (λ ks. EachHasOperation ks c.args.occurrences.now) keyed (c.if-not-each_has_operation.ensures.0 refl) in
    record {
      operations = record {
        belong = belong (goal.at.returns c).In-Some-2;
        distinct = said_apart (λ (s : OperationItem). s.key) make c.args.said.items up.distinct;
        not_empty = has_over (keys_of c.in-Some-2.rows.items) (keys_said c.args.said.items) c.args.occurrences.now (row_to_key (λ (s : OperationItem). s.key) make c.args.said.items c.in-Some-2.rows.items up.same) has;
      };
      same = up.same;
      in_order = up.in_order;
    }
