-- What putting in a tracker's receipt makes of the tables: the receipts, and the rows of the plan beside them.
use Rattle.std.proofs.Common.{◌≡◌, ◌≢◌, ◌↔◌, inl, inr, refl, sym, ◌∙◌, ap, subst, Bool, true, false, cond, true≢false, ◌∷◌, [], List, Some}
use Rattle.std.proofs.lemmas.Option.{none-some, same_Some}
use Rattle.std.specs.FinMap as finite
use Rattle.std.specs.FinMap.{get, get-empty, get-insert, insert}
use Rattle.std.specs.Ordering.{eq_by_cmp}
use Rattle.sqlite_rules.specs.Lists.{Has}
use Rattle.sqlite.specs.declared.types.Value.TheVariants.{Text}
use Rattle.plan_basics.proofs.Members.{tied_is}
use Rattle.plan_basics.specs.Keys.{Name, name_cmp, name_cmp_total, name_cmp-IsAntisymmetric}
use Rattle.tracker_receipts.specs.plan_drafts.proofs.Tables.{itself, other_key}
use Rattle.tracker_receipts.specs.plan_drafts.specs.declared.RowKey.{RowKey}
use Rattle.tracker_receipts.specs.plan_records.specs.Receipts.{IsReceiptRow}
use Rattle.tracker_receipts.specs.plan_records.specs.Step.{Receipt, Receipts}
use Rattle.tracker_receipts.specs.plan_records.specs.declared.PlanRow.{PlanRow}
use Rattle.store_schema.specs.StoredPlans.{Held, StoredReceipt, receipt_row, with_receipt}
use Rattle.tracker_receipts.specs.Stored.{columns_of}
use Rattle.store_schema.specs.Receipts.{HoldReceipts, receipt_columns, written_numbered}
use Rattle.store_schema.specs.WrittenTables.{HoldRows, written}
use Rattle.store_schema.proofs.EachTable.{BeginAlike}
use Rattle.store_schema.proofs.RowPut.{puts_by_key}
use Rattle.store_schema.proofs.RowsWritten.{receipts_beside}

-- ---- the rows of the plan stay

pub rows_beside_receipt : (IsIn : PlanRow → Type 0) (x : StoredReceipt) (held : Held) → HoldRows IsIn held → HoldRows IsIn (with_receipt x held)
rows_beside_receipt IsIn x held h = record {
  metas = h.metas;
  workstations = h.workstations;
  intervals = h.intervals;
  resources = h.resources;
  occurrences = h.occurrences;
  operations = h.operations;
  dependencies = h.dependencies;
  needs = h.needs;
  quantities = h.quantities;
  amounts = h.amounts;
}

-- ---- the receipts

-- columns of one key are of one tracker
same_tracker : (x y : StoredReceipt) → BeginAlike 1 receipt_row x y ↔ (x.tracker ≡ y.tracker)
same_tracker x y = (λ alike. let same : x.tracker ≡ y.tracker = cc in same, λ same. ap (λ t. Text t ∷ []) same)

module _ (T : Receipts) (k : Name) (r : Receipt) (held : Held) (h : HoldReceipts T held) where
  -- columns of the receipts with this one
  abbrev IsPut : StoredReceipt → Type 0
  IsPut x = (tracker : Name) × (receipt : Receipt) × IsReceiptRow (insert T k r) tracker receipt × (x ≡ receipt_columns tracker receipt)

  own : (x : StoredReceipt) → x ≡ receipt_columns k r → IsPut x
  own x is = (k, r, get-insert name_cmp_total T k r k ∙ ap (λ b. cond b (Some r) (get T k)) (itself name_cmp_total name_cmp-IsAntisymmetric k), is)

  old : (x : StoredReceipt) → Has held.receipts x → (BeginAlike 1 receipt_row x (receipt_columns k r) → ⊥) → IsPut x
  old x has other =
      let it = (h x).0 has in
      let apart : it.0 ≢ k = λ same. other ((same_tracker x (receipt_columns k r)).1 (ap (λ (y : StoredReceipt). y.tracker) it.3 ∙ same)) in (
        it.0,
        it.1,
        get-insert name_cmp_total T k r it.0 ∙ ap (λ b. cond b (Some r) (get T it.0)) (other_key name_cmp_total name_cmp-IsAntisymmetric it.0 k apart) ∙ it.2,
        it.3,
      )

  there : (x : StoredReceipt) (tracker : Name) (receipt : Receipt) (b : Bool) → eq_by_cmp name_cmp tracker k ≡ b → cond b (Some r) (get T tracker) ≡ Some receipt → x ≡ receipt_columns tracker receipt
      → Has (with_receipt (receipt_columns k r) held).receipts x
  there x tracker receipt true tied e is =
      inl (is ∙ (λ i. receipt_columns (tied_is name_cmp-IsAntisymmetric tracker k tied i) (sym (same_Some r receipt e) i)))
  there x tracker receipt false tied e is =
      (puts_by_key 1 receipt_row (λ y. (tt, tt)) (receipt_columns k r) held.receipts x).1 (inr (
        (h x).1 (tracker, receipt, e, is),
        λ alike.
            let named : tracker ≡ k = ap (λ (y : StoredReceipt). y.tracker) (sym is) ∙ (same_tracker x (receipt_columns k r)).0 alike in
            true≢false (sym (itself name_cmp_total name_cmp-IsAntisymmetric k) ∙ ap (λ t. eq_by_cmp name_cmp t k) (sym named) ∙ tied),
      ))

  -- it is in, in place of its tracker's, and those of the others
  pub receipt_put : HoldReceipts (insert T k r) (with_receipt (receipt_columns k r) held)
  receipt_put x = (
    λ has. elim ((puts_by_key 1 receipt_row (λ y. (tt, tt)) (receipt_columns k r) held.receipts x).0 has) [ inl is ↦ own x is | inr was ↦ old x was.0 was.1 ],
    λ it. there x it.0 it.1 (eq_by_cmp name_cmp it.0 k) refl (sym (get-insert name_cmp_total T k r it.0) ∙ it.2) it.3,
  )

-- tables with the same receipts hold those of the same trackers
pub receipts_alike : (T : Receipts) (held new : Held) → new.receipts ≡ held.receipts → HoldReceipts T held → HoldReceipts T new
receipts_alike T held new same h x = subst (λ xs. Has xs x ↔ ((tracker : Name) × (receipt : Receipt) × IsReceiptRow T tracker receipt × (x ≡ receipt_columns tracker receipt))) (sym same) (h x)

-- changed rows and gone keys leave the receipts
pub receipts_stay : (T : Receipts) (rows : List PlanRow) (gone : List RowKey) (held : Held) → HoldReceipts T held → HoldReceipts T (written rows gone held)
receipts_stay T rows gone held = receipts_alike T held (written rows gone held) (receipts_beside rows gone held)

-- and with a tracker's new receipt they hold it, in place of its last
pub receipt_written : (T : Receipts) (tracker : Name) (receipt : Receipt) (rows : List PlanRow) (gone : List RowKey) (held : Held) → HoldReceipts T held
    → HoldReceipts (insert T tracker receipt) (written_numbered rows gone (columns_of tracker receipt) held)
receipt_written T tracker receipt rows gone held h = receipt_put T tracker receipt (written rows gone held) (receipts_stay T rows gone held h)

-- ---- those of no tracker

pub none_are_held : (held : Held) → held.receipts ≡ [] → HoldReceipts finite.empty held
none_are_held held none x = (
  λ has. absurd (subst (λ xs. Has xs x) none has),
  λ it. absurd (none-some it.1 (sym (get-empty name_cmp it.0) ∙ it.2)),
)

pub no_receipts_held : (held : Held) → HoldReceipts finite.empty held → held.receipts ≡ []
no_receipts_held held h = none_in held.receipts (λ x has. let it = (h x).0 has in none-some it.1 (sym (get-empty name_cmp it.0) ∙ it.2))
  where
    none_in : (xs : List StoredReceipt) → ((x : StoredReceipt) → Has xs x → ⊥) → xs ≡ []
    none_in [] none = refl
    none_in (x ∷ xs) none = absurd (none x (inl refl))
