-- Before a plan is loaded there is one row.
use Rattle.std.proofs.Common.{◌≡◌, ◌↔◌, Bool, IsTrue, nat_eq, get_or, sym, ap, subst, ◌∙◌, arith, inl, inr, refl, true≢false, List, [], ◌∷◌, length, Contains, option_map}
use Rattle.std.specs.Cmp.{unsigned_Decides}
use Rattle.std.specs.FinMap.{get, get-empty}
use Rattle.std.specs.FinSet as set
use Rattle.plan_basics.specs.Keys.{name_cmp, occurrence_cmp, operation_cmp}
use Rattle.plan_drafts.proofs.Lists.{contains_cases, contains_head, contains_later, contains_none}
use Rattle.plan_rows.specs.plan_laws.proofs.Every.{nothing_at}
use Rattle.plan_model.specs.Contents.{nothing, pair_cmp}
use Rattle.plan_model.specs.Plan.{no_plan}
use Rattle.plan_opening.specs.Opening.{first_row}
use Rattle.plan_records.specs.Rows.{AreRows, IsRow}
use Rattle.plan_records.specs.declared.PlanRow.{PlanRow}
use Rattle.plan_records.specs.declared.PlanRow.TheVariants as row

only_row : (r : PlanRow) → IsRow no_plan r → r ≡ first_row
only_row (row.Meta version loaded clock) h = λ i. row.Meta (h.0 i) (h.1 i) (h.2 i)
only_row (row.Workstation name a) h = nothing_at (option_map (λ ws. ws.attribute) (get nothing.workstations name)) a (ap (option_map (λ ws. ws.attribute)) (get-empty name_cmp name)) h
only_row (row.Interval w i) h = nothing_at (get nothing.workstations w) h.0 (get-empty name_cmp w) h.1
only_row (row.Resource name available) h = nothing_at (get nothing.resources name) h.0 (get-empty name_cmp name) h.1
only_row (row.Occurrence c priority deadline status) h = nothing_at (get nothing.occurrences c) (record { priority = priority; deadline = deadline }) (get-empty occurrence_cmp c) h.0
only_row (row.Operation r) h = nothing_at (get nothing.operations r.op) h.op (get-empty operation_cmp r.op) h.is_in_plan
only_row (row.Dependency p s) h = absurd (true≢false (sym h ∙ set.contains-empty pair_cmp (p, s)))
only_row (row.Need o r mode keep) h = nothing_at (get nothing.operations o) h.0 (get-empty operation_cmp o) h.1
only_row (row.Quantity r quantity) h = nothing_at (get nothing.resources r) h.0 (get-empty name_cmp r) h.1
only_row (row.Amount o r amount) h = nothing_at (get nothing.operations o) h.0 (get-empty operation_cmp o) h.1

its_row : (r : PlanRow) → r ≡ first_row → IsRow no_plan r
its_row r e = subst (IsRow no_plan) (sym e) (refl, refl, refl)

-- a list of that row
pub are_first : (rows : List PlanRow) → rows ≡ first_row ∷ [] → AreRows no_plan rows
are_first rows e = subst (AreRows no_plan) (sym e) (record {
  has_all = λ r. (
    λ has. elim (contains_cases first_row [] r has) [ inl same ↦ its_row r (sym same) | inr later ↦ absurd (contains_none r later) ],
    λ is. subst (Contains (first_row ∷ [])) (sym (only_row r is)) (contains_head first_row []),
  );
  once = λ i j d h k. absurd (omega arith);
})

-- and no other
pub first_alone : (rows : List PlanRow) → AreRows no_plan rows → rows ≡ first_row ∷ []
first_alone [] are = absurd (contains_none first_row ((are.has_all first_row).1 (refl, refl, refl)))
first_alone (r ∷ []) are = ap (λ s. s ∷ []) (only_row r ((are.has_all r).0 (contains_head r [])))
first_alone (r ∷ s ∷ rows) are =
    let one = only_row r ((are.has_all r).0 (contains_head r (s ∷ rows))) in
    let other = only_row s ((are.has_all s).0 (contains_later r (s ∷ rows) s (contains_head s rows))) in
    absurd (are.once 0 1 r (omega arith) (omega arith) (one ∙ sym other))

-- a list of one row
pub sole : (rows : List PlanRow) (r : PlanRow) → length rows ≡ 1 → r ≡ get_or rows 0 r → rows ≡ r ∷ []
sole [] r one is = absurd (omega (arith, one))
sole (s ∷ []) r one is = ap (λ x. x ∷ []) (sym is)
sole (s ∷ x ∷ rows) r one is = absurd (omega (arith, one))

-- is of that row alone, or isn't
pub sole_told : (rows : List PlanRow) (r : PlanRow) (told : Bool) → length rows ≡ 1 → r ≡ get_or rows 0 r → IsTrue told ↔ (r ≡ first_row) → IsTrue told ↔ AreRows no_plan rows
sole_told rows r told one is h =
    let same = sole rows r one is in (
      λ yes. are_first rows (same ∙ ap (λ x. x ∷ []) (h.0 yes)),
      λ are. h.1 (ap (λ xs. get_or xs 0 r) (sym same ∙ first_alone rows are)),
    )

-- a list of no row or of several isn't
pub several_told : (rows : List PlanRow) → ¬ (length rows ≡ 1) → IsTrue (nat_eq (length rows) 1) ↔ AreRows no_plan rows
several_told rows several = (λ told. absurd (several ((unsigned_Decides (length rows) 1).0 told)), λ are. ap (λ xs. nat_eq (length xs) 1) (first_alone rows are))
