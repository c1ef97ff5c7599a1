-- A valid plan has all its rows in one list, and from one plan to another those that change.
use Rattle.std.proofs.Common.{◌≡◌, ◌≢◌, ◌↔◌, inl, inr, refl, sym, ◌∙◌, ap₂, subst, arith, List, [], ◌∷◌, map, Contains, Less}
use Rattle.std.specs.Prelude.{All, AllPairs}
use Rattle.std.specs.List.{AllByRecursion}
use Rattle.std.specs.List.Sorted.{IsStrictlySortedBy}
use Rattle.plan_laws.proofs.Elements.{all_of, pairs_of}
use Rattle.plan_laws.proofs.Listed.{Listed, images_listed}
use Rattle.plan_laws.proofs.RowOrder.{keys_above}
use Rattle.plan_laws.proofs.RowsListed.{one_of_key, rows_listed}
use Rattle.plan_laws.proofs.RowsTold.{row_told}
use Rattle.plan_laws.proofs.Sorted.{contains_cases, contains_head, contains_later, contains_none, not_itself}
use Rattle.plan_laws.proofs.Sorting.{ascending}
use Rattle.operation_graph.proofs.Telling.{Told, told_alike, told_and, told_contains, told_equal, told_none}
use Rattle.plan_laws.proofs.Waiting.{told_listed}
use Rattle.plan_laws.specs.Tables.{SomeChanges, SomeRows}
use Rattle.plan_records.specs.Rows.{HasKey, IsRow, key_of, row_cmp}
use Rattle.plan_records.specs.declared.PlanRow.{PlanRow}
use Rattle.plan_records.specs.plan_drafts.specs.RowKeys.{row_cmp-IsAntisymmetric, row_cmp_total}
use Rattle.plan_records.specs.plan_drafts.specs.declared.RowKey.{RowKey}

module _ (S : PlanRow → Type 0) where
  -- one of them for each of these keys
  abbrev Picked : List RowKey → Type 0
  Picked ks = (rs : List PlanRow) × (map key_of rs ≡ ks) × ((r : PlanRow) → Contains rs r → S r) × ((k : RowKey) → Contains ks k → (r : PlanRow) × Contains rs r × (key_of r ≡ k))

  picked : (ks : List RowKey) → ((k : RowKey) → Contains ks k → (r : PlanRow) × S r × (key_of r ≡ k)) → Picked ks
  picked [] each = ([], refl, λ r h. absurd (contains_none r h), λ k h. absurd (contains_none k h))
  picked (k ∷ ks) each =
      let first = each k (contains_head k ks) in
      let rest = picked ks (λ l has. each l (contains_later k ks l has)) in (
        first.0 ∷ rest.0,
        ap₂ (λ z zs. z ∷ zs) first.2 rest.1,
        λ r h. elim (contains_cases first.0 rest.0 r h) [ inl e ↦ subst S e first.1 | inr later ↦ rest.2 r later ],
        λ l h. elim (contains_cases k ks l h) [
          | inl e ↦ (first.0, contains_head first.0 rest.0, first.2 ∙ e)
          | inr later ↦ let found = rest.3 l later in (found.0, contains_later first.0 rest.0 found.0 found.1, found.2)
        ],
      )

  -- ascending, where each has its own key
  by_key : Listed S → ((r s : PlanRow) → S r → S s → key_of r ≡ key_of s → r ≡ s) → (rs : List PlanRow) × IsStrictlySortedBy row_cmp (map key_of rs) × ((r : PlanRow) → Contains rs r ↔ S r)
  by_key l one =
      let ks = ascending row_cmp_total row_cmp-IsAntisymmetric (images_listed key_of l) in
      let rs = picked ks.0 (λ k has. (ks.2 k).0 has) in (
        rs.0,
        subst (IsStrictlySortedBy row_cmp) (sym rs.1) ks.1,
        λ r. (
          rs.2 r,
          λ s.
              let found = rs.3 (key_of r) ((ks.2 (key_of r)).1 (r, s, refl)) in
              subst (Contains rs.0) (one found.0 r (rs.2 found.0 found.1) s found.2) found.1,
        ),
      )

all_apart : (r : PlanRow) (rows : List PlanRow) → AllByRecursion (λ s. row_cmp (key_of r) (key_of s) ≡ Less) rows → All (λ s. r ≢ s) rows
all_apart r [] h = λ i d k. absurd (omega arith)
all_apart r (s ∷ rows) h = all_of (λ z. r ≢ z) s rows (λ e. not_itself row_cmp_total (key_of r) (subst (λ z. row_cmp (key_of r) (key_of z) ≡ Less) (sym e) h.0)) (all_apart r rows h.1)

-- rows in the order of their keys are there once each
pub each_once : (rows : List PlanRow) → IsStrictlySortedBy row_cmp (map key_of rows) → AllPairs (λ a b. a ≢ b) rows
unfolding IsStrictlySortedBy
each_once [] h = λ i j d k l. absurd (omega arith)
each_once (r ∷ rows) h = pairs_of (λ a b. a ≢ b) r rows (all_apart r rows (keys_above (key_of r) rows h.0)) (each_once rows h.1)

pub some_rows : SomeRows
some_rows P valid =
    let rows = by_key (IsRow P) (rows_listed P valid) (λ r s x y e. one_of_key P valid r s x y e) in
    (rows.0, record { has_all = rows.2; once = each_once rows.0 rows.1 })

pub some_changes : SomeChanges
some_changes P Q p q =
    let old = rows_listed P p in
    let new = rows_listed Q q in
    let changed : Listed (λ r. IsRow Q r × ¬ IsRow P r) = told_listed new.0 (λ r h. (new.1 r).1 h.0) (λ r. told_and (row_told Q q.acyclic r) (λ _. told_none (row_told P p.acyclic r))) in
    let rows = by_key (λ r. IsRow Q r × ¬ IsRow P r) changed (λ r s x y e. one_of_key Q q r s x.0 y.0 e) in
    let old_keys = images_listed key_of old in
    let new_keys = images_listed key_of new in
    let has_new : (k : RowKey) → Told (HasKey Q k) = λ k. told_alike (λ h. (new_keys.1 k).0 h) (λ h. (new_keys.1 k).1 h) (told_contains (told_equal row_cmp_total row_cmp-IsAntisymmetric) new_keys.0 k) in
    let has_old : (k : RowKey) → Told (HasKey P k) = λ k. told_alike (λ h. (old_keys.1 k).0 h) (λ h. (old_keys.1 k).1 h) (told_contains (told_equal row_cmp_total row_cmp-IsAntisymmetric) old_keys.0 k) in
    let gone = ascending row_cmp_total row_cmp-IsAntisymmetric (told_listed {S = λ k. HasKey P k × ¬ HasKey Q k} old_keys.0 (λ k h. (old_keys.1 k).1 h.0) (λ k. told_and (has_old k) (λ _. told_none (has_new k)))) in
    (rows.0, gone.0, record { rows_ascend = rows.1; has_rows = rows.2; gone_ascend = gone.1; has_gone = gone.2 })
