-- Rows of tables of the first version, turned into those of the second.
use Rattle.std.proofs.Common.{◌≡◌, ◌≢◌, ◌↔◌, refl, sym, ap, subst, ◌∙◌, ℕ, ◌<◌, Bool, true, false, cond, eqb, List, map, get_or, length, Contains, arith}
use Rattle.std.specs.List.{AllPairs}
use Rattle.std.proofs.lemmas.Bool.{eqb-true}
use Rattle.std.proofs.lemmas.List.{get_or-map, length-map}
use Rattle.sqlite_rules.proofs.ListLemmas.{has_contained, contains_had}
use Rattle.store_schema.proofs.Queries.{has_mapped, mapped_has}
use Rattle.plan_records.specs.plan_model.specs.Plan.{Plan}
use Rattle.plan_records.specs.Rows.{AreRows, IsFirstRow, IsRow}
use Rattle.plan_records.specs.declared.PlanRow.{PlanRow}
use Rattle.plan_records.specs.declared.PlanRow.TheVariants as row
use Rattle.store_schema.specs.declared.texts.Version.{Version}
use Rattle.store_schema.specs.declared.texts.Version.TheVariants.{First, Second}
use Rattle.store_reads.specs.Versions.{as_second, in_other, other_version, IsRowBy}

-- ---- one row

version_back : (v : ℕ) → other_version (other_version v) ≡ v
version_back v = by (eqb v 1) refl (eqb v 2) refl
  where
    by : (b : Bool) → eqb v 1 ≡ b → (c : Bool) → eqb v 2 ≡ c → other_version (other_version v) ≡ v
    by true first c second = subst (λ n. other_version (other_version n) ≡ n) (sym (eqb-true v 1 first)) refl
    by false first true second = subst (λ n. other_version (other_version n) ≡ n) (sym (eqb-true v 2 second)) refl
    by false first false second =
        let same : other_version v ≡ v = λ i. cond (first i) 2 (cond (second i) 1 v) in
        ap other_version same ∙ same

row_back : (r : PlanRow) → in_other (in_other r) ≡ r
row_back (row.Meta version loaded clock) = ap (λ v. row.Meta v loaded clock) (version_back version)
row_back _ = refl

names_second : (v : ℕ) → other_version v ≡ 2 → v ≡ 1
names_second v e = sym (version_back v) ∙ ap other_version e

names_first : (v : ℕ) → v ≡ 1 → other_version v ≡ 2
names_first v e = ap other_version e

first_of : (P : Plan) (r : PlanRow) → IsRow P (in_other r) → IsFirstRow P r
first_of P (row.Meta version loaded clock) h = (names_second version h.0, h.1, h.2)
first_of P _ h = h

second_of : (P : Plan) (r : PlanRow) → IsFirstRow P r → IsRow P (in_other r)
second_of P (row.Meta version loaded clock) h = (names_first version h.0, h.1, h.2)
second_of P _ h = h

-- ---- lists of rows

has_other : (rows : List PlanRow) (r : PlanRow) → Contains rows r → Contains (map in_other rows) (in_other r)
has_other rows r has = contains_had (map in_other rows) (in_other r) (mapped_has in_other rows r (has_contained rows r has))

is_of_other : (rows : List PlanRow) (r : PlanRow) → Contains (map in_other rows) r → Contains rows (in_other r)
is_of_other rows r has =
    let it = has_mapped in_other rows r (has_contained (map in_other rows) r has) in
    subst (Contains rows) (sym (ap in_other it.2 ∙ row_back it.0)) (contains_had rows it.0 it.1)

pairs_in_other : (rows : List PlanRow) → AllPairs (λ a b. a ≢ b) rows → AllPairs (λ a b. a ≢ b) (map in_other rows)
pairs_in_other rows once i j d below within =
    let long : j < length rows = omega (arith, within, length-map rows in_other) in
    let first = get_or-map in_other rows i d d (omega (arith, below, long)) in
    let second = get_or-map in_other rows j d d long in
    λ same. once i j d below long (sym (row_back (get_or rows i d)) ∙ ap in_other (sym first ∙ same ∙ second) ∙ row_back (get_or rows j d))

-- where the rows, turned, are a plan's, they are those of the plan in their version
pub turned_are : (version : Version) (P : Plan) (rows : List PlanRow) → AreRows P (as_second version rows) → (r : PlanRow) → Contains rows r ↔ IsRowBy version P r
turned_are Second P rows are r = are.has_all r
turned_are First P rows are r = (
  λ has. first_of P r ((are.has_all (in_other r)).0 (has_other rows r has)),
  λ is. subst (Contains rows) (row_back r) (is_of_other rows (in_other r) ((are.has_all (in_other r)).1 (second_of P r is))),
)

-- and the way back
pub are_turned : (version : Version) (P : Plan) (rows : List PlanRow) → ((r : PlanRow) → Contains rows r ↔ IsRowBy version P r) → AllPairs (λ a b. a ≢ b) rows → AreRows P (as_second version rows)
are_turned Second P rows are once = record { has_all = are; once = once }
are_turned First P rows are once = record {
  has_all = λ r. (
    λ has. subst (IsRow P) (row_back r) (second_of P (in_other r) ((are (in_other r)).0 (is_of_other rows r has))),
    λ is. subst (Contains (map in_other rows)) (row_back r) (has_other rows (in_other r) ((are (in_other r)).1 (first_of P (in_other r) (subst (IsRow P) (sym (row_back r)) is)))),
  );
  once = pairs_in_other rows once;
}
