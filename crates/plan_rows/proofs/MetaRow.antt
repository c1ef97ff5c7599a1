-- The one row that tells whether a plan is loaded, and its clock.
use Rattle.std.proofs.Common.{◌≡◌, inl, inr, refl, sym, subst, ap, ℕ, List, [], ◌∷◌, slice_get, Contains, Option, None, Some}
use Rattle.std.specs.List.Sorted.{IsStrictlySortedBy}
use Rattle.std.specs.Option.{is_some}
use Rattle.plan_basics.proofs.Members.{contains_cases, contains_head, contains_none}
use Rattle.plan_model.specs.Plan.{Plan}
use Rattle.plan_records.specs.Rows.{key_of, row_cmp}
use Rattle.plan_records.specs.declared.PlanRow.{PlanRow}
use Rattle.plan_records.specs.declared.PlanRow.TheVariants as row
use Rattle.plan_rows.proofs.NoRows.{none_ascend}
use Rattle.plan_rows.specs.Sources.{plan_if_any}
use Rattle.plan_rows.specs.Tables.{IsRowOf}
use Rattle.plan_rows.specs.declared.row_sources.RowSource.{RowSource}
use Rattle.row_differences.specs.Changes.{AreAt, AreRowChanges, HasRowOf}

pub loaded_if_any : (clock : ℕ) (source : Option RowSource) → (plan_if_any clock source).loaded ≡ is_some source
loaded_if_any clock None = refl
loaded_if_any clock (Some s) = refl

pub clock_of_plan : (clock : ℕ) (source : Option RowSource) → (plan_if_any clock source).clock ≡ clock
clock_of_plan clock None = refl
clock_of_plan clock (Some s) = refl

abbrev pub meta_row : Plan → PlanRow
meta_row P = row.Meta 2 P.loaded P.clock

only_meta : (P : Plan) (r : PlanRow) → IsRowOf 0 P r → meta_row P ≡ r
only_meta P (row.Meta version loaded clock) (is, e) = λ i. row.Meta (sym is.0 i) (sym is.1 i) (sym is.2 i)
only_meta P r (is, e) = absurd (cc)

is_meta : (P : Plan) → IsRowOf 0 P (meta_row P)
is_meta P = ((refl, refl, refl), refl)

one_ascends : (r : PlanRow) → IsStrictlySortedBy row_cmp (key_of r ∷ [])
unfolding IsStrictlySortedBy
one_ascends r = (tt, tt)

module _ (P Q : Plan) where
  -- its key is there before and after
  not_gone : (k : _) → Contains [] k → HasRowOf key_of (IsRowOf 0 P) k × ¬ HasRowOf key_of (IsRowOf 0 Q) k
  not_gone k has = absurd (contains_none k has)

  stays : (k : _) → HasRowOf key_of (IsRowOf 0 P) k × ¬ HasRowOf key_of (IsRowOf 0 Q) k → Contains [] k
  stays k ((r, is, e), not) = absurd (not (meta_row Q, is_meta Q, subst (λ z. key_of z ≡ k) (sym (only_meta P r is)) e))

  -- it differs
  pub meta_changed : (P.loaded ≡ Q.loaded → P.clock ≡ Q.clock → ⊥) → AreRowChanges row_cmp key_of (IsRowOf 0 P) (IsRowOf 0 Q) (meta_row Q ∷ []) []
  meta_changed differs = record {
    rows_ascend = one_ascends (meta_row Q);
    has_rows = λ r. (told r, λ h. subst (Contains (meta_row Q ∷ [])) (only_meta Q r h.0) (contains_head (meta_row Q) []));
    gone_ascend = none_ascend row_cmp;
    has_gone = λ k. (not_gone k, stays k);
  }
    where
      was_not : ¬ IsRowOf 0 P (meta_row Q)
      was_not ((version, loaded, clock), e) = differs (sym loaded) (sym clock)

      told : (r : PlanRow) → Contains (meta_row Q ∷ []) r → IsRowOf 0 Q r × ¬ IsRowOf 0 P r
      told r has = elim (contains_cases (meta_row Q) [] r has) [
        | inl same ↦ subst (λ z. IsRowOf 0 Q z × ¬ IsRowOf 0 P z) same (is_meta Q, was_not)
        | inr later ↦ absurd (contains_none r later)
      ]

  -- it is the same
  pub meta_stays : P.loaded ≡ Q.loaded → P.clock ≡ Q.clock → AreRowChanges row_cmp key_of (IsRowOf 0 P) (IsRowOf 0 Q) [] []
  meta_stays loaded clock = record {
    rows_ascend = none_ascend row_cmp;
    has_rows = λ r. (λ has. absurd (contains_none r has), λ h. absurd (h.1 (was r h.0)));
    gone_ascend = none_ascend row_cmp;
    has_gone = λ k. (not_gone k, stays k);
  }
    where
      was : (r : PlanRow) → IsRowOf 0 Q r → IsRowOf 0 P r
      was r is = subst (IsRowOf 0 P) (only_meta Q r is) ((refl, sym loaded, sym clock), refl)

-- what is made at the only place
pub only_place : {X : Type 0} (x : X) (i : ℕ) (y : X) → Contains (0 ∷ []) i → y ≡ x → slice_get (x ∷ []) i ≡ Some y
only_place x i y has same = elim (contains_cases 0 [] i has) [
  | inl first ↦ subst (λ k. slice_get (x ∷ []) k ≡ Some y) first (ap Some (sym same))
  | inr later ↦ absurd (contains_none i later)
]

pub one_made : {X : Type 0} (x : X) (more : List X) → AreAt (x ∷ []) (0 ∷ []) more → more ≡ x ∷ []
one_made x [] at = absurd (cc)
one_made x (y ∷ []) at = let same : x ≡ y = cc in ap (λ z. z ∷ []) (sym same)
one_made x (y ∷ z ∷ more) at = absurd (cc)
