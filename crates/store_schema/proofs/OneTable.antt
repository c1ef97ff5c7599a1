-- One table that holds the columns of some of a plan's rows: what putting in a row makes of it, and what taking one out.
use Rattle.std.proofs.Common.{◌≡◌, ◌≢◌, ◌⊎◌, ◌↔◌, inl, inr, refl, sym, ◌∙◌, ap, subst, subst₂, ℕ, true, false, true≢false, List, take, Option, Some, None, ◌==◌}
use Rattle.std.proofs.lemmas.Option.{none-some, same_Some}
use Rattle.sqlite.specs.Order.{Row}
use Rattle.sqlite_rules.specs.Lists.{Has}
use Rattle.store_schema.specs.Stored.{BeginsExactly, without_key}
use Rattle.store_schema.proofs.Stored.{without_key_has}
use Rattle.tracker_receipts.specs.plan_drafts.specs.declared.RowKey.{RowKey}
use Rattle.tracker_receipts.specs.plan_records.specs.Rows.{key_of, table_of}
use Rattle.tracker_receipts.specs.plan_records.specs.declared.PlanRow.{PlanRow}

-- the table holds the columns of these rows and no others; of a row of another table `of` has none
abbrev pub HoldsOf : {X : Type 0} → (PlanRow → Option X) → (PlanRow → Type 0) → List X → Type 0
HoldsOf {X} of IsIn xs = (x : X) → Has xs x ↔ ((r : PlanRow) × IsIn r × (of r ≡ Some x))

-- a row is of this table and has columns, or it is of another and has none; rows of one key have columns that are alike
pub record IsTable {A X : Type 0} (table : ℕ) (of : PlanRow → Option X) (made : A → PlanRow) (columns : A → X) (Alike : X → X → Type 0) : Type 0 where
  pub told : (r : PlanRow) → ((a : A) × (r ≡ made a) × (of r ≡ Some (columns a)) × ((table_of (key_of r) == table) ≡ true)) ⊎ ((of r ≡ None) × ((table_of (key_of r) == table) ≡ false))
  pub keys : (a b : A) → (key_of (made a) ≡ key_of (made b)) ↔ Alike (columns a) (columns b)

-- putting in a value keeps those of other keys
abbrev pub PutsByKey : {X : Type 0} → (X → X → Type 0) → (X → List X → List X) → Type 0
PutsByKey {X} Alike put = (x : X) (xs : List X) (y : X) → Has (put x xs) y ↔ ((y ≡ x) ⊎ (Has xs y × (Alike y x → ⊥)))

-- with the columns of a row, if it has any here
abbrev pub put_of : {X : Type 0} → (X → List X → List X) → Option X → List X → List X
put_of put None xs = xs
put_of put (Some x) xs = put x xs

module _ {A X : Type 0} {table : ℕ} {of : PlanRow → Option X} {made : A → PlanRow} {columns : A → X} {Alike : X → X → Type 0} (is : IsTable table of made columns Alike) where
  -- which row it is that has such columns
  pub row_with : (r : PlanRow) (x : X) → of r ≡ Some x → (a : A) × (r ≡ made a) × (x ≡ columns a) × ((table_of (key_of r) == table) ≡ true)
  row_with r x has = elim (is.told r) [
    | inl (a, own, said, here) ↦ (a, own, same_Some x (columns a) (sym has ∙ said), here)
    | inr (none, other) ↦ absurd (none-some x (sym none ∙ has))
  ]

  keys_alike : (r s : PlanRow) (x y : X) → of r ≡ Some x → of s ≡ Some y → (key_of r ≡ key_of s) ↔ Alike x y
  keys_alike r s x y e f =
      let a = row_with r x e in
      let b = row_with s y f in
      let keys = is.keys a.0 b.0 in (
        λ same. subst₂ Alike (sym a.2) (sym b.2) (keys.0 (sym (ap key_of a.1) ∙ same ∙ ap key_of b.1)),
        λ same. ap key_of a.1 ∙ keys.1 (subst₂ Alike a.2 b.2 same) ∙ sym (ap key_of b.1),
      )

  -- a row of this table has no key of another
  apart : (s : PlanRow) (y : X) (k : RowKey) → of s ≡ Some y → (table_of k == table) ≡ false → key_of s ≢ k
  apart s y k has other same = true≢false (sym (row_with s y has).3 ∙ ap (λ l. table_of l == table) same ∙ other)

  elsewhere : (r : PlanRow) → of r ≡ None → (table_of (key_of r) == table) ≡ false
  elsewhere r none = elim (is.told r) [
    | inl it ↦ absurd (none-some (columns it.0) (sym none ∙ it.2))
    | inr other ↦ other.1
  ]

  -- what is of other keys is all that was there
  pub holds_besides : (IsIn : PlanRow → Type 0) (k : RowKey) (xs : List X) → (table_of k == table) ≡ false → HoldsOf of IsIn xs → HoldsOf of (λ s. IsIn s × (key_of s ≢ k)) xs
  holds_besides IsIn k xs other h x = (
    λ there. let it = (h x).0 there in (it.0, (it.1, apart it.0 x k it.2 other), it.2),
    λ it. (h x).1 (it.0, it.1.0, it.2),
  )

  module _ (put : X → List X → List X) (puts : PutsByKey Alike put) where
    put_here : (IsIn : PlanRow → Type 0) (r : PlanRow) (c : X) (xs : List X) → of r ≡ Some c → HoldsOf of IsIn xs → HoldsOf of (λ s. (s ≡ r) ⊎ (IsIn s × (key_of s ≢ key_of r))) (put c xs)
    put_here IsIn r c xs has h x = (
      λ there. elim ((puts c xs x).0 there) [
        | inl own ↦ (r, inl refl, has ∙ ap Some (sym own))
        | inr old ↦ let it = (h x).0 old.0 in (it.0, inr (it.1, λ same. old.1 ((keys_alike it.0 r x c it.2 has).0 same)), it.2)
      ],
      λ it. (puts c xs x).1 (elim it.1 [
        | inl own ↦ inl (same_Some x c (sym it.2 ∙ ap of own ∙ has))
        | inr old ↦ inr ((h x).1 (it.0, old.0, it.2), λ alike. old.1 ((keys_alike it.0 r x c it.2 has).1 alike))
      ]),
    )

    put_elsewhere : (IsIn : PlanRow → Type 0) (r : PlanRow) (xs : List X) → of r ≡ None → HoldsOf of IsIn xs → HoldsOf of (λ s. (s ≡ r) ⊎ (IsIn s × (key_of s ≢ key_of r))) xs
    put_elsewhere IsIn r xs none h x = (
      λ there. let it = (h x).0 there in (it.0, inr (it.1, apart it.0 x (key_of r) it.2 (elsewhere r none)), it.2),
      λ it. elim it.1 [
        | inl own ↦ absurd (none-some x (sym none ∙ sym (ap of own) ∙ it.2))
        | inr old ↦ (h x).1 (it.0, old.0, it.2)
      ],
    )

    by_columns : (IsIn : PlanRow → Type 0) (r : PlanRow) (xs : List X) (c : Option X) → of r ≡ c → HoldsOf of IsIn xs → HoldsOf of (λ s. (s ≡ r) ⊎ (IsIn s × (key_of s ≢ key_of r))) (put_of put c xs)
    by_columns IsIn r xs None none h = put_elsewhere IsIn r xs none h
    by_columns IsIn r xs (Some c) has h = put_here IsIn r c xs has h

    -- it holds the row, if it is of this table, and those that were there of other keys
    pub holds_put_of : (IsIn : PlanRow → Type 0) (r : PlanRow) (xs : List X) → HoldsOf of IsIn xs → HoldsOf of (λ s. (s ≡ r) ⊎ (IsIn s × (key_of s ≢ key_of r))) (put_of put (of r) xs)
    holds_put_of IsIn r xs h = by_columns IsIn r xs (of r) refl h

  -- ---- a row is taken out

  -- what is left of the table without a key: of this table the values that don't begin with its columns, of another all
  abbrev pub IsLeft : ℕ → (X → Row) → RowKey → List X → List X → Type 0
  IsLeft key row k xs left =
      ((v : Row) × (left ≡ without_key key row v xs) × BeginsExactly key v × ((a : A) → (key_of (made a) ≡ k) ↔ (take key (row (columns a)) ≡ take key v)))
      ⊎ ((left ≡ xs) × ((table_of k == table) ≡ false))

  module _ (key : ℕ) (row : X → Row) (exact : (x : X) → BeginsExactly key (row x)) (IsIn : PlanRow → Type 0) (k : RowKey) (xs : List X) where
    -- a row of this table has the key exactly where its columns begin with these
    begins_so : (v : Row) → ((a : A) → (key_of (made a) ≡ k) ↔ (take key (row (columns a)) ≡ take key v)) → (r : PlanRow) (x : X) → of r ≡ Some x → (key_of r ≡ k) ↔ (take key (row x) ≡ take key v)
    begins_so v keyed r x has =
        let a = row_with r x has in
        let same = ap (λ y. take key (row y)) a.2 in
        let both = keyed a.0 in (
          λ own. same ∙ both.0 (sym (ap key_of a.1) ∙ own),
          λ begins. ap key_of a.1 ∙ both.1 (sym same ∙ begins),
        )

    taken_here : (v : Row) → BeginsExactly key v → ((a : A) → (key_of (made a) ≡ k) ↔ (take key (row (columns a)) ≡ take key v)) → HoldsOf of IsIn xs → HoldsOf of (λ s. IsIn s × (key_of s ≢ k)) (without_key key row v xs)
    taken_here v begins keyed h x =
        let left = without_key_has key row v xs x begins (exact x) in (
          λ there. let kept = left.0 there in let it = (h x).0 kept.0 in (it.0, (it.1, λ own. kept.1 ((begins_so v keyed it.0 x it.2).0 own)), it.2),
          λ it. left.1 ((h x).1 (it.0, it.1.0, it.2), λ alike. it.1.1 ((begins_so v keyed it.0 x it.2).1 alike)),
        )

    -- it holds those that were there of other keys
    pub holds_left : (left : List X) → IsLeft key row k xs left → HoldsOf of IsIn xs → HoldsOf of (λ s. IsIn s × (key_of s ≢ k)) left
    holds_left left is h = elim is [
      | inl (v, taken, begins, keyed) ↦ subst (HoldsOf of (λ s. IsIn s × (key_of s ≢ k))) (sym taken) (taken_here v begins keyed h)
      | inr (same, other) ↦ subst (HoldsOf of (λ s. IsIn s × (key_of s ≢ k))) (sym same) (holds_besides IsIn k xs other h)
    ]

-- it speaks of a set of rows
pub holds_alike : {X : Type 0} {of : PlanRow → Option X} {A B : PlanRow → Type 0} (xs : List X) → ((r : PlanRow) → A r ↔ B r) → HoldsOf of A xs → HoldsOf of B xs
holds_alike xs same h x = (
  λ there. let it = (h x).0 there in (it.0, (same it.0).0 it.1, it.2),
  λ it. (h x).1 (it.0, (same it.0).1 it.1, it.2),
)
