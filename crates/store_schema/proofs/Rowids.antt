-- Rows that their rowids tell apart.
use Rattle.std.proofs.Common.{◌≡◌, ◌≢◌, ℤ, List, [], ◌∷◌, filter, Bool, true, false, not, refl, sym, ap, subst, ◌∙◌, inl, inr, Some, IsTrue}
use Rattle.std.specs.List.{AllByRecursion}
use Rattle.std.specs.Ordering.{is_eq, match_ordering}
use Rattle.std.specs.declared.cmp.Ordering.{Ordering}
use Rattle.std.specs.declared.cmp.Ordering.TheVariants.{Less, Equal, Greater}
use Rattle.std.proofs.lemmas.Bool.{and_parts, cases_Bool, true≢false}
use Rattle.std.proofs.lemmas.Cmp.{tied_itself}
use Rattle.std.proofs.lemmas.Map.Lookups.{exact_signed}
use Rattle.sqlite.specs.Collation.TheVariants.{Binary}
use Rattle.sqlite.specs.Ops.{is_true, binary, is_null}
use Rattle.sqlite.specs.Order.{Row, value_cmp}
use Rattle.sqlite.specs.Tree.{rowid, has_rowid, put_row, without_rowid, IsAscending}
use Rattle.sqlite.specs.declared.types.Value.{Value}
use Rattle.sqlite.specs.declared.types.Value.TheVariants.{Int}
use Rattle.sqlite_rules.specs.Edit.{id_in, is_taken, are_fresh, without_all}
use Rattle.sqlite_rules.specs.Lists.{Has}
use Rattle.sqlite_rules.proofs.ListLemmas.{all_from, all_has, has_filtered, some_from}
use Rattle.sqlite_rules.proofs.TableLemmas.{int_is, put_has}
use Rattle.sqlite_schema.specs.Rules.{differ}
use Rattle.sqlite_sql.specs.Ops.{from_truth}
use Rattle.sqlite_sql.specs.declared.ops.BinaryOp.TheVariants.{Compare}
use Rattle.sqlite_sql.specs.declared.ops.CompareOp.TheVariants.{Eq}
use Rattle.sqlite_trees.specs.View.{is_int}
use Rattle.sqlite_value.proofs.OrderLemmas.{value_cmp_total, value_cmp-Int}
use Rattle.store_schema.specs.Rows.{AreNumbered}

truth_of : (b : Bool) → is_true (from_truth (Some b)) ≡ b
truth_of true = refl
truth_of false = refl

-- SQL's = of two values that aren't NULL
pub equal_is : (a b : Value) → is_null a ≡ false → is_null b ≡ false → is_true (binary (Compare Eq Binary) a b) ≡ is_eq (value_cmp a b)
unfolding binary
equal_is a b p q = rw (p, q) (truth_of _)

pub eq_of : (o : Ordering) → is_eq o ≡ true → o ≡ Equal
eq_of Less h = absurd (true≢false (sym h))
eq_of Equal h = refl
eq_of Greater h = absurd (true≢false (sym h))

-- integers that tie are the same
pub same_integer : (a b : Value) (m n : ℤ) → a ≡ Int m → b ≡ Int n → value_cmp a b ≡ Equal → a ≡ b
same_integer a b m n p q tie = p ∙ ap Int (exact_signed m n (sym (value_cmp-Int m n) ∙ (λ i. value_cmp (sym p i) (sym q i)) ∙ tie)) ∙ sym q

-- a stored row's rowid
pub numbered_has : (rows : List Row) (r : Row) → AreNumbered rows → Has rows r → rowid r ≡ Int (id_in (rowid r))
numbered_has rows r h there = int_is (rowid r) (all_has (λ x. IsTrue (is_int (rowid x))) rows r h.1 there)

pub rowid_is : (rows : List Row) (r : Row) (id : ℤ) → AreNumbered rows → Has rows r → has_rowid id r ≡ true → rowid r ≡ Int id
rowid_is rows r id h there same = same_integer (rowid r) (Int id) (id_in (rowid r)) id (numbered_has rows r h there) refl (eq_of _ same)

-- rows of one rowid are one
pub distinct : (rows : List Row) (a b : Row) → AreNumbered rows → Has rows a → Has rows b → rowid a ≡ rowid b → a ≡ b
distinct [] a b numbered p q same = absurd p
distinct (x ∷ rows) a b numbered (inl p) (inl q) same = p ∙ sym q
distinct (x ∷ rows) a b numbered (inl p) (inr q) same = absurd (all_has (λ y. rowid x ≢ rowid y) rows b numbered.0.0 q (ap rowid (sym p) ∙ same))
distinct (x ∷ rows) a b numbered (inr p) (inl q) same = absurd (all_has (λ y. rowid x ≢ rowid y) rows a numbered.0.0 p (ap rowid (sym q) ∙ sym same))
distinct (x ∷ rows) a b numbered (inr p) (inr q) same = distinct rows a b (numbered.0.1, numbered.1.1) p q same

filter_none : {X : Type 0} (p : X → Bool) (xs : List X) → ((x : X) → Has xs x → p x ≡ false) → filter p xs ≡ []
filter_none p [] h = refl
filter_none p (x ∷ xs) h = rw (h x (inl refl)) (filter_none p xs (λ y there. h y (inr there)))

-- a test that finds rows of one rowid alone finds one row
pub single : (p : Row → Bool) (rows : List Row) (r : Row) → AreNumbered rows → Has rows r → p r ≡ true → ((x : Row) → Has rows x → p x ≡ true → rowid x ≡ rowid r) → filter p rows ≡ r ∷ []
single p [] r numbered there here only = absurd there
single p (x ∷ rows) r numbered (inl same) here only =
    let none : (y : Row) → Has rows y → p y ≡ false = λ y at. elim (cases_Bool (p y)) [
      | inl passes ↦ absurd (all_has (λ z. rowid x ≢ rowid z) rows y numbered.0.0 at (ap rowid (sym same) ∙ sym (only y (inr at) passes)))
      | inr fails ↦ fails
    ] in
    let head : p x ≡ true = ap p (sym same) ∙ here in
    rw head (rw (filter_none p rows none) (ap (λ y. y ∷ []) (sym same)))
single p (x ∷ rows) r numbered (inr later) here only = elim (cases_Bool (p x)) [
  | inl passes ↦ absurd (all_has (λ z. rowid x ≢ rowid z) rows r numbered.0.0 later (only x (inl refl) passes))
  | inr fails ↦ rw fails (single p rows r (numbered.0.1, numbered.1.1) later here (λ y at. only y (inr at)))
]

-- a row that has another rowid differs there
pub differs : (rows : List Row) (r : Row) (id : ℤ) → AreNumbered rows → Has rows r → has_rowid id r ≡ false → differ (rowid r) (Int id) ≡ true
unfolding binary
differs rows r id h there apart = let is = numbered_has rows r h there in rw is (turned (value_cmp (Int (id_in (rowid r))) (Int id)) (rw is at apart))
  where
    turned : (o : Ordering) → is_eq o ≡ false → is_true (from_truth (Some (Rattle.std.specs.Ordering.is_ne o))) ≡ true
    turned Less h = refl
    turned Equal h = absurd (true≢false h)
    turned Greater h = refl

-- ---- what keeps rows numbered

numbered_filter : (p : Row → Bool) (rows : List Row) → AreNumbered rows → AreNumbered (filter p rows)
numbered_filter p rows h = (apart rows h.0, all_from (λ r. IsTrue (is_int (rowid r))) (filter p rows) (λ r at. all_has (λ x. IsTrue (is_int (rowid x))) rows r h.1 (has_filtered p rows r at).0))
  where
    apart : (rows : List Row) → IsAscending (λ a b. rowid a ≢ rowid b) rows → IsAscending (λ a b. rowid a ≢ rowid b) (filter p rows)
    apart [] k = tt
    apart (x ∷ rows) k = elim (cases_Bool (p x)) [
      | inl passes ↦ rw passes (all_from (λ y. rowid x ≢ rowid y) (filter p rows) (λ y at. all_has (λ z. rowid x ≢ rowid z) rows y k.0 (has_filtered p rows y at).0), apart rows k.1)
      | inr fails ↦ rw fails (apart rows k.1)
    ]

pub numbered_without : (id : ℤ) (rows : List Row) → AreNumbered rows → AreNumbered (without_rowid id rows)
numbered_without id rows h = numbered_filter (λ r. not (has_rowid id r)) rows h

pub numbered_without_all : (ids : List ℤ) (rows : List Row) → AreNumbered rows → AreNumbered (without_all rows ids)
numbered_without_all [] rows h = h
numbered_without_all (id ∷ ids) rows h = numbered_without_all ids (without_rowid id rows) (numbered_without id rows h)

not_true : (b : Bool) → not b ≡ true → b ≡ false
not_true true h = absurd (true≢false (sym h))
not_true false h = refl

-- no row has the rowid of a fresh one
fresh_apart : (rows : List Row) (new : Row) → are_fresh rows (new ∷ []) ≡ true → (r : Row) → Has rows r → rowid r ≢ rowid new
fresh_apart rows new fresh r there same =
    let free : is_taken rows new ≡ false = not_true _ (and_parts _ _ fresh).0 in
    true≢false (sym (some_from (λ x. is_eq (value_cmp (rowid x) (rowid new))) rows r there (ap is_eq (ap (λ v. value_cmp v (rowid new)) same ∙ tied_itself value_cmp_total (rowid new)))) ∙ free)

pub fresh_other : (rows : List Row) (new : Row) (id : ℤ) → AreNumbered rows → are_fresh rows (new ∷ []) ≡ true → rowid new ≡ Int id → (r : Row) → Has rows r → has_rowid id r ≡ false
fresh_other rows new id h fresh is r there = elim (cases_Bool (has_rowid id r)) [
  | inl own ↦ absurd (fresh_apart rows new fresh r there (rowid_is rows r id h there own ∙ sym is))
  | inr apart ↦ apart
]

-- no two rows have one rowid
abbrev Apart : List Row → Type 0
Apart rows = IsAscending (λ a b. rowid a ≢ rowid b) rows

pub numbered_put : (new : Row) (rows : List Row) → AreNumbered rows → IsTrue (is_int (rowid new)) → are_fresh rows (new ∷ []) ≡ true → AreNumbered (put_row new rows)
numbered_put new rows h integer fresh = (
  apart rows h.0 (fresh_apart rows new fresh),
  all_from (λ r. IsTrue (is_int (rowid r))) (put_row new rows) (λ r at. elim (put_has new rows r at) [
    | inl own ↦ subst (λ x. IsTrue (is_int (rowid x))) (sym own) integer
    | inr was ↦ all_has (λ x. IsTrue (is_int (rowid x))) rows r h.1 was
  ]),
)
  where
    apart : (rows : List Row) → Apart rows → ((r : Row) → Has rows r → rowid r ≢ rowid new) → Apart (put_row new rows)
    apart [] k other = (tt, tt)
    apart (r ∷ rows) k other =
        let behind : AllByRecursion (λ y. rowid r ≢ rowid y) (put_row new rows) = all_from (λ y. rowid r ≢ rowid y) (put_row new rows) (λ y at. elim (put_has new rows y at) [
          | inl own ↦ λ same. other r (inl refl) (same ∙ ap rowid own)
          | inr was ↦ all_has (λ z. rowid r ≢ rowid z) rows y k.0 was
        ]) in
        let before : AllByRecursion (λ y. rowid new ≢ rowid y) rows = all_from (λ y. rowid new ≢ rowid y) rows (λ y at. λ same. other y (inr at) (sym same)) in
        elim (value_cmp (rowid r) (rowid new)) as (λ o. Apart (match_ordering o (r ∷ put_row new rows) (new ∷ rows) (new ∷ r ∷ rows))) [
          | Less ↦ (behind, apart rows k.1 (λ y at. other y (inr at)))
          | Equal ↦ (before, k.1)
          | Greater ↦ ((λ same. other r (inl refl) (sym same), before), k)
        ]
