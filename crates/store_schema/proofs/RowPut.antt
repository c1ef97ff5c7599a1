-- What putting in a row makes of all tables.
use Rattle.std.proofs.Common.{◌≡◌, ◌≢◌, ◌⊎◌, ◌↔◌, inl, inr, refl, sym, ◌∙◌, ap, subst, ℕ, is_eq, true, not}
use Rattle.std.proofs.lemmas.Bool.{cases_Bool, true≢false}
use Rattle.std.proofs.lemmas.Cmp.{tied_itself}
use Rattle.std.proofs.lemmas.Map.Lookups.{exact_signed}
use Rattle.sqlite.specs.Order.{Row, value_cmp}
use Rattle.sqlite.specs.Tree.{has_rowid}
use Rattle.sqlite.specs.declared.types.Value.TheVariants.{Int}
use Rattle.sqlite_rules.proofs.ListLemmas.{has_filtered, has_kept}
use Rattle.sqlite_value.proofs.OrderLemmas.{value_cmp_total, value_cmp-Int}
use Rattle.store_schema.specs.Stored.{BeginsExactly, with_value, with_value_at}
use Rattle.store_schema.proofs.Rowids.{eq_of}
use Rattle.store_schema.proofs.Stored.{without_key_has}
use Rattle.store_schema.proofs.Writes.{not_is}
use Rattle.tracker_receipts.specs.plan_records.specs.Rows.{key_of}
use Rattle.tracker_receipts.specs.plan_records.specs.declared.PlanRow.{PlanRow}
use Rattle.tracker_receipts.specs.plan_records.specs.declared.PlanRow.TheVariants as row
use Rattle.store_schema.specs.StoredPlans.{Held, StoredMeta, meta_row, workstation_row, interval_row, resource_row, occurrence_row, operation_row, dependency_row, need_row, quantity_row, amount_row}
use Rattle.store_schema.specs.WrittenTables.{HoldRows, with_row}
use Rattle.store_schema.proofs.EachTable.{BeginAlike, HaveOneId, amount_of, amount_rows, amount_table, dependency_of, dependency_rows, dependency_table, interval_of, interval_rows, interval_table, meta_of, meta_rows, meta_table, need_of, need_rows, need_table, occurrence_of, occurrence_rows, occurrence_table, operation_of, operation_rows, operation_table, quantity_of, quantity_rows, quantity_table, resource_of, resource_rows, resource_table, workstation_of, workstation_rows, workstation_table}
use Rattle.store_schema.proofs.OneTable.{HoldsOf, PutsByKey, holds_alike, holds_put_of, put_of}

-- ---- all tables as one table each

through : {A B C : Type 0} → A ↔ B → B ↔ C → A ↔ C
through p q = (λ a. q.0 (p.0 a), λ c. p.1 (q.1 c))

turned : {A B : Type 0} → A ↔ B → B ↔ A
turned p = (p.1, p.0)

-- each table holds the columns of its rows
pub record HoldEach (IsIn : PlanRow → Type 0) (held : Held) : Type 0 where
  pub metas : HoldsOf meta_of IsIn held.metas
  pub workstations : HoldsOf workstation_of IsIn held.workstations
  pub intervals : HoldsOf interval_of IsIn held.intervals
  pub resources : HoldsOf resource_of IsIn held.resources
  pub occurrences : HoldsOf occurrence_of IsIn held.occurrences
  pub operations : HoldsOf operation_of IsIn held.operations
  pub dependencies : HoldsOf dependency_of IsIn held.dependencies
  pub needs : HoldsOf need_of IsIn held.needs
  pub quantities : HoldsOf quantity_of IsIn held.quantities
  pub amounts : HoldsOf amount_of IsIn held.amounts

-- that is the same as that they hold the rows
pub each_of : {IsIn : PlanRow → Type 0} {held : Held} → HoldRows IsIn held → HoldEach IsIn held
each_of {IsIn = IsIn} h = record {
  metas = λ x. through (h.metas x) (meta_rows IsIn x);
  workstations = λ x. through (h.workstations x) (workstation_rows IsIn x);
  intervals = λ x. through (h.intervals x) (interval_rows IsIn x);
  resources = λ x. through (h.resources x) (resource_rows IsIn x);
  occurrences = λ x. through (h.occurrences x) (occurrence_rows IsIn x);
  operations = λ x. through (h.operations x) (operation_rows IsIn x);
  dependencies = λ x. through (h.dependencies x) (dependency_rows IsIn x);
  needs = λ x. through (h.needs x) (need_rows IsIn x);
  quantities = λ x. through (h.quantities x) (quantity_rows IsIn x);
  amounts = λ x. through (h.amounts x) (amount_rows IsIn x);
}

pub of_each : {IsIn : PlanRow → Type 0} {held : Held} → HoldEach IsIn held → HoldRows IsIn held
of_each {IsIn = IsIn} h = record {
  metas = λ x. through (h.metas x) (turned (meta_rows IsIn x));
  workstations = λ x. through (h.workstations x) (turned (workstation_rows IsIn x));
  intervals = λ x. through (h.intervals x) (turned (interval_rows IsIn x));
  resources = λ x. through (h.resources x) (turned (resource_rows IsIn x));
  occurrences = λ x. through (h.occurrences x) (turned (occurrence_rows IsIn x));
  operations = λ x. through (h.operations x) (turned (operation_rows IsIn x));
  dependencies = λ x. through (h.dependencies x) (turned (dependency_rows IsIn x));
  needs = λ x. through (h.needs x) (turned (need_rows IsIn x));
  quantities = λ x. through (h.quantities x) (turned (quantity_rows IsIn x));
  amounts = λ x. through (h.amounts x) (turned (amount_rows IsIn x));
}

-- they hold a set of rows
pub rows_alike : {A B : PlanRow → Type 0} {held : Held} → ((r : PlanRow) → A r ↔ B r) → HoldRows A held → HoldRows B held
rows_alike {held = held} same h =
    let each = each_of h in
    of_each (record {
      metas = holds_alike held.metas same each.metas;
      workstations = holds_alike held.workstations same each.workstations;
      intervals = holds_alike held.intervals same each.intervals;
      resources = holds_alike held.resources same each.resources;
      occurrences = holds_alike held.occurrences same each.occurrences;
      operations = holds_alike held.operations same each.operations;
      dependencies = holds_alike held.dependencies same each.dependencies;
      needs = holds_alike held.needs same each.needs;
      quantities = holds_alike held.quantities same each.quantities;
      amounts = holds_alike held.amounts same each.amounts;
    })

-- ---- a row is put in

-- what is put in stands first, and behind it what was there of other keys
pub puts_by_key : {X : Type 0} (key : ℕ) (row : X → Row) → ((x : X) → BeginsExactly key (row x)) → PutsByKey (BeginAlike key row) (with_value key row)
puts_by_key key row exact x xs y =
    let rest = without_key_has key row (row x) xs y (exact x) (exact y) in (
      λ there. elim there [ inl own ↦ inl own | inr old ↦ inr (rest.0 old) ],
      λ there. elim there [ inl own ↦ inl own | inr old ↦ inr (rest.1 old) ],
    )

-- rows of one id have one rowid
by_id : (x y : StoredMeta) → (has_rowid x.id (meta_row y) ≡ true) ↔ (y.id ≡ x.id)
by_id x y = (
  λ same. exact_signed y.id x.id (sym (value_cmp-Int y.id x.id) ∙ eq_of _ same),
  λ same. ap (λ n. is_eq (value_cmp (Int n) (Int x.id))) same ∙ ap is_eq (tied_itself value_cmp_total (Int x.id)),
)

puts_by_id : PutsByKey HaveOneId (with_value_at (λ z. z.id) meta_row)
puts_by_id x xs y = (
  λ there. elim there [
    | inl own ↦ inl own
    | inr old ↦ let it = has_filtered (λ z. not (has_rowid x.id (meta_row z))) xs y old in inr (it.0, λ same. true≢false (sym ((by_id x y).1 same) ∙ not_is _ it.1))
  ],
  λ there. elim there [
    | inl own ↦ inl own
    | inr old ↦ inr (has_kept (λ z. not (has_rowid x.id (meta_row z))) xs y old.0 (elim (cases_Bool (has_rowid x.id (meta_row y))) [
      | inl same ↦ absurd (old.1 ((by_id x y).0 same))
      | inr other ↦ ap not other
    ]))
  ],
)

-- each table takes the row's columns, if it has any there
abbrev put_in_each : PlanRow → Held → Held
put_in_each r held = record {
  metas = put_of (with_value_at (λ z. z.id) meta_row) (meta_of r) held.metas;
  workstations = put_of (with_value 1 workstation_row) (workstation_of r) held.workstations;
  intervals = put_of (with_value 2 interval_row) (interval_of r) held.intervals;
  resources = put_of (with_value 1 resource_row) (resource_of r) held.resources;
  occurrences = put_of (with_value 2 occurrence_row) (occurrence_of r) held.occurrences;
  operations = put_of (with_value 3 operation_row) (operation_of r) held.operations;
  dependencies = put_of (with_value 6 dependency_row) (dependency_of r) held.dependencies;
  needs = put_of (with_value 4 need_row) (need_of r) held.needs;
  quantities = put_of (with_value 1 quantity_row) (quantity_of r) held.quantities;
  amounts = put_of (with_value 4 amount_row) (amount_of r) held.amounts;
  receipts = held.receipts;
}

with_row_is : (r : PlanRow) (held : Held) → with_row r held ≡ put_in_each r held
with_row_is (row.Meta version loaded clock) held = refl
with_row_is (row.Workstation name a) held = refl
with_row_is _ held = refl

-- the row is in, and those that were there of other keys
abbrev pub WithRow : PlanRow → (PlanRow → Type 0) → PlanRow → Type 0
WithRow r IsIn s = (s ≡ r) ⊎ (IsIn s × (key_of s ≢ key_of r))

pub row_put : (IsIn : PlanRow → Type 0) (r : PlanRow) (held : Held) → HoldRows IsIn held → HoldRows (WithRow r IsIn) (with_row r held)
row_put IsIn r held h =
    let each = each_of h in
    subst (HoldRows (WithRow r IsIn)) (sym (with_row_is r held)) (of_each (record {
      metas = holds_put_of meta_table (with_value_at (λ z. z.id) meta_row) puts_by_id IsIn r held.metas each.metas;
      workstations = holds_put_of workstation_table (with_value 1 workstation_row) (puts_by_key 1 workstation_row (λ x. (tt, tt))) IsIn r held.workstations each.workstations;
      intervals = holds_put_of interval_table (with_value 2 interval_row) (puts_by_key 2 interval_row (λ x. (tt, (tt, tt)))) IsIn r held.intervals each.intervals;
      resources = holds_put_of resource_table (with_value 1 resource_row) (puts_by_key 1 resource_row (λ x. (tt, tt))) IsIn r held.resources each.resources;
      occurrences = holds_put_of occurrence_table (with_value 2 occurrence_row) (puts_by_key 2 occurrence_row (λ x. (tt, (tt, tt)))) IsIn r held.occurrences each.occurrences;
      operations = holds_put_of operation_table (with_value 3 operation_row) (puts_by_key 3 operation_row (λ x. (tt, (tt, (tt, tt))))) IsIn r held.operations each.operations;
      dependencies = holds_put_of dependency_table (with_value 6 dependency_row) (puts_by_key 6 dependency_row (λ x. (tt, (tt, (tt, (tt, (tt, (tt, tt)))))))) IsIn r held.dependencies each.dependencies;
      needs = holds_put_of need_table (with_value 4 need_row) (puts_by_key 4 need_row (λ x. (tt, (tt, (tt, (tt, tt)))))) IsIn r held.needs each.needs;
      quantities = holds_put_of quantity_table (with_value 1 quantity_row) (puts_by_key 1 quantity_row (λ x. (tt, tt))) IsIn r held.quantities each.quantities;
      amounts = holds_put_of amount_table (with_value 4 amount_row) (puts_by_key 4 amount_row (λ x. (tt, (tt, (tt, (tt, tt)))))) IsIn r held.amounts each.amounts;
    }))

-- the receipts stay
pub receipts_beside_row : (r : PlanRow) (held : Held) → (with_row r held).receipts ≡ held.receipts
receipts_beside_row r held = ap (λ h. h.receipts) (with_row_is r held)
