-- What changed rows and gone keys make of all tables.
use Rattle.std.proofs.Common.{◌≡◌, ◌≢◌, ◌⊎◌, ◌↔◌, inl, inr, refl, sym, ◌∙◌, ap, subst, List, [], ◌∷◌, map, Contains, Less}
use Rattle.std.specs.List.Sorted.{IsStrictlySortedBy}
use Rattle.tracker_receipts.specs.plan_drafts.proofs.Lists.{at_member, contains_head, contains_later, contains_cases, contains_none}
use Rattle.tracker_receipts.specs.plan_drafts.specs.declared.RowKey.{RowKey}
use Rattle.tracker_receipts.specs.plan_drafts.specs.RowKeys.{row_cmp_total}
use Rattle.tracker_receipts.specs.plan_laws.proofs.RowOrder.{keys_above}
use Rattle.tracker_receipts.specs.plan_laws.proofs.Sorted.{not_itself}
use Rattle.tracker_receipts.specs.plan_laws.specs.Tables.{MayGo}
use Rattle.tracker_receipts.specs.plan_records.specs.Rows.{key_of, row_cmp}
use Rattle.tracker_receipts.specs.plan_records.specs.declared.PlanRow.{PlanRow}
use Rattle.store_schema.specs.StoredPlans.{Held}
use Rattle.store_schema.specs.WrittenTables.{HoldRows, with_row, with_rows, without_row, without_rows, written}
use Rattle.store_schema.proofs.KeyTaken.{WithoutKey, key_taken, receipts_beside_key}
use Rattle.store_schema.proofs.RowPut.{WithRow, receipts_beside_row, row_put, rows_alike}

-- ---- rows are put in

-- no row of the list has this key
abbrev pub NoneHasKey : List PlanRow → RowKey → Type 0
NoneHasKey rows k = (r : PlanRow) → Contains rows r → key_of r ≢ k

-- the rows are in, and those that were there of other keys
abbrev pub WithRows : List PlanRow → (PlanRow → Type 0) → PlanRow → Type 0
WithRows rows IsIn s = Contains rows s ⊎ (IsIn s × NoneHasKey rows (key_of s))

-- rows of ascending keys have different keys
pub first_alone : (r : PlanRow) (rows : List PlanRow) → IsStrictlySortedBy row_cmp (map key_of (r ∷ rows)) → NoneHasKey rows (key_of r)
unfolding IsStrictlySortedBy
first_alone r rows up s has same =
    not_itself row_cmp_total (key_of r) (subst (λ k. row_cmp (key_of r) k ≡ Less) same (at_member (λ q. row_cmp (key_of r) (key_of q) ≡ Less) rows s (keys_above (key_of r) rows up.0) has))

others_ascend : (k : RowKey) (keys : List RowKey) → IsStrictlySortedBy row_cmp (k ∷ keys) → IsStrictlySortedBy row_cmp keys
unfolding IsStrictlySortedBy
others_ascend k keys up = up.1

none_of_both : (r : PlanRow) (rows : List PlanRow) (k : RowKey) → key_of r ≢ k → NoneHasKey rows k → NoneHasKey (r ∷ rows) k
none_of_both r rows k first rest s has same = elim (contains_cases r rows s has) [ inl own ↦ first (ap key_of own ∙ same) | inr later ↦ rest s later same ]

-- the first row, and then the others
one_by_one : (IsIn : PlanRow → Type 0) (r : PlanRow) (rows : List PlanRow) → NoneHasKey rows (key_of r) → (s : PlanRow) → WithRows rows (WithRow r IsIn) s ↔ WithRows (r ∷ rows) IsIn s
one_by_one IsIn r rows alone s = (
  λ is. elim is [
    | inl later ↦ inl (contains_later r rows s later)
    | inr was ↦ elim was.0 [
      | inl own ↦ inl (subst (Contains (r ∷ rows)) (sym own) (contains_head r rows))
      | inr old ↦ inr (old.0, none_of_both r rows (key_of s) (λ same. old.1 (sym same)) was.1)
    ]
  ],
  λ is. elim is [
    | inl has ↦ elim (contains_cases r rows s has) [
      | inl own ↦ inr (inl (sym own), λ q there same. alone q there (same ∙ ap key_of (sym own)))
      | inr later ↦ inl later
    ]
    | inr old ↦ inr (inr (old.0, λ same. old.1 r (contains_head r rows) (sym same)), λ q there. old.1 q (contains_later r rows q there))
  ],
)

pub rows_put : (IsIn : PlanRow → Type 0) (rows : List PlanRow) (held : Held) → IsStrictlySortedBy row_cmp (map key_of rows) → HoldRows IsIn held → HoldRows (WithRows rows IsIn) (with_rows rows held)
rows_put IsIn [] held up h = rows_alike (λ s. (λ is. inr (is, λ q there. absurd (contains_none q there)), λ is. elim is [ inl there ↦ absurd (contains_none s there) | inr old ↦ old.0 ])) h
rows_put IsIn (r ∷ rows) held up h =
    rows_alike (one_by_one IsIn r rows (first_alone r rows up)) (rows_put (WithRow r IsIn) rows (with_row r held) (others_ascend (key_of r) (map key_of rows) up) (row_put IsIn r held h))

receipts_beside_rows : (rows : List PlanRow) (held : Held) → (with_rows rows held).receipts ≡ held.receipts
receipts_beside_rows [] held = refl
receipts_beside_rows (r ∷ rows) held = receipts_beside_rows rows (with_row r held) ∙ receipts_beside_row r held

-- ---- rows are taken out

-- those that were there of other keys
abbrev pub WithoutKeys : List RowKey → (PlanRow → Type 0) → PlanRow → Type 0
WithoutKeys keys IsIn s = IsIn s × (Contains keys (key_of s) → ⊥)

one_key_less : (IsIn : PlanRow → Type 0) (k : RowKey) (keys : List RowKey) (s : PlanRow) → WithoutKeys keys (WithoutKey k IsIn) s ↔ WithoutKeys (k ∷ keys) IsIn s
one_key_less IsIn k keys s = (
  λ is. (is.0.0, λ has. elim (contains_cases k keys (key_of s) has) [ inl own ↦ is.0.1 (sym own) | inr later ↦ is.1 later ]),
  λ is. ((is.0, λ same. is.1 (subst (Contains (k ∷ keys)) (sym same) (contains_head k keys))), λ later. is.1 (contains_later k keys (key_of s) later)),
)

pub keys_taken : (IsIn : PlanRow → Type 0) (keys : List RowKey) (held : Held) → ((k : RowKey) → Contains keys k → MayGo k) → HoldRows IsIn held → HoldRows (WithoutKeys keys IsIn) (without_rows keys held)
keys_taken IsIn [] held may_go h = rows_alike (λ s. (λ is. (is, λ there. contains_none (key_of s) there), λ is. is.0)) h
keys_taken IsIn (k ∷ keys) held may_go h =
    rows_alike (one_key_less IsIn k keys) (keys_taken (WithoutKey k IsIn) keys (without_row k held) (λ l there. may_go l (contains_later k keys l there)) (key_taken IsIn k held (may_go k (contains_head k keys)) h))

receipts_beside_keys : (keys : List RowKey) (held : Held) → (without_rows keys held).receipts ≡ held.receipts
receipts_beside_keys [] held = refl
receipts_beside_keys (k ∷ keys) held = receipts_beside_keys keys (without_row k held) ∙ receipts_beside_key k held

-- ---- both

-- the rows are in, and those that were there of other keys than theirs and those that are gone
pub rows_written : (IsIn : PlanRow → Type 0) (rows : List PlanRow) (gone : List RowKey) (held : Held) → IsStrictlySortedBy row_cmp (map key_of rows) → ((k : RowKey) → Contains gone k → MayGo k) → HoldRows IsIn held
    → HoldRows (WithoutKeys gone (WithRows rows IsIn)) (written rows gone held)
rows_written IsIn rows gone held up may_go h = keys_taken (WithRows rows IsIn) gone (with_rows rows held) may_go (rows_put IsIn rows held up h)

-- the receipts stay
pub receipts_beside : (rows : List PlanRow) (gone : List RowKey) (held : Held) → (written rows gone held).receipts ≡ held.receipts
receipts_beside rows gone held = receipts_beside_keys gone (with_rows rows held) ∙ receipts_beside_rows rows held
