-- The row of the plan itself, among the rows of a plan.
use Rattle.std.proofs.Common.{◌≡◌, ◌≢◌, refl, sym, subst, ℕ, ◌+◌, ◌<◌, ◌≤◌, Bool, List, Option, Some, All, Contains, take, length, get_or}
use Rattle.std.proofs.lemmas.List.{take_all}
use Rattle.std.proofs.lemmas.List.Elements.{All-contains, All-more, Contains-get_or}
use Rattle.plan_model.specs.Plan.{Plan}
use Rattle.plan_records.specs.Rows.{AreRows}
use Rattle.plan_records.specs.declared.PlanRow.{PlanRow}
use Rattle.plan_records.specs.declared.PlanRow.TheVariants as row

-- a row that isn't that of the plan itself
abbrev pub IsNoMeta : PlanRow → Type 0
IsNoMeta r = (loaded : Bool) (clock : ℕ) → r ≢ row.Meta 2 loaded clock

module _ (rows : List PlanRow) (i : ℕ) (r : PlanRow) (lt : i < length rows) (is : r ≡ get_or rows i r) where
  pub is_there : Contains rows r
  is_there = subst (Contains rows) (sym is) (Contains-get_or rows i r lt)

  -- one more
  pub no_meta_more : All IsNoMeta (take i rows) → IsNoMeta r → All IsNoMeta (take (i + 1) rows)
  no_meta_more before none = All-more IsNoMeta rows i r lt before (subst IsNoMeta is none)

module _ (P : Plan) (rows : List PlanRow) (are : AreRows P rows) where
  -- what is said of the plan is so
  pub meta_said : (r : PlanRow) → Contains rows r → (loaded : Bool) (clock : ℕ) → r ≡ row.Meta 2 loaded clock → ◌≡◌ {A = Option (Bool × ℕ)} (Some (loaded, clock)) (Some (P.loaded, P.clock))
  meta_said r has loaded clock e =
      let h = (are.has_all (row.Meta 2 loaded clock)).0 (subst (Contains rows) e has) in
      λ j. Some (h.1 j, h.2 j)

  -- and it is said
  pub some_meta : (n : ℕ) → length rows ≤ n → ¬ All IsNoMeta (take n rows)
  some_meta n all none =
      let has : Contains rows (row.Meta 2 P.loaded P.clock) = (are.has_all (row.Meta 2 P.loaded P.clock)).1 (refl, refl, refl) in
      All-contains IsNoMeta rows (row.Meta 2 P.loaded P.clock) (subst (All IsNoMeta) (take_all n rows all) none) has P.loaded P.clock refl
