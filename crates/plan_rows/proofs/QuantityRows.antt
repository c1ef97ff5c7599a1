-- The rows of the table of quantities for the plan of a source.
use Rattle.std.proofs.Common.{◌≡◌, ◌==◌, ◌≢◌, refl, sym, subst, ap, ◌∙◌, ℕ, Bool, true, false, cond, List, map, Contains, Some, None}
use Rattle.std.proofs.lemmas.Bool.{eqb-false, eqb-true, false_from_ne_true}
use Rattle.std.proofs.lemmas.Option.{none-some, same_Some}
use Rattle.std.specs.FinMap.{entries}
use Rattle.std.specs.List.{filter_map}
use Rattle.std.specs.List.Sorted.{IsStrictlySortedBy}
use Rattle.std.specs.Map.{keys_of}
use Rattle.plan_basics.proofs.Members.{contains_mapped, mapped_contains}
use Rattle.plan_basics.specs.Keys.{Name, name_cmp, name_cmp-IsAntisymmetric, name_cmp_total}
use Rattle.plan_basics.specs.declared.limits.TheConstants.{MOST_QUANTITY}
use Rattle.plan_records.specs.plan_drafts.specs.declared.RowKey.TheVariants as key
use Rattle.plan_records.specs.declared.PlanRow.{PlanRow}
use Rattle.plan_records.specs.declared.PlanRow.TheVariants as row
use Rattle.plan_model.specs.Plan.{Plan}
use Rattle.plan_model.specs.declared.Stock.{Stock}
use Rattle.plan_rows.proofs.KeptRows.{kept_has, kept_is, keyed_by}
use Rattle.derived_figures.specs.plan_laws.proofs.SomeOfEach.{is_made, made_of_one, some_ascend}
use Rattle.plan_rows.specs.Rows.{quantity_row, quantity_written}
use Rattle.plan_rows.specs.Tables.{AreRowsOf, IsRowOf}

-- what is written of one
written_of : (x : Name × Stock) (q : Name × ℕ) → quantity_written x ≡ Some q → (x.1.quantity ≢ MOST_QUANTITY) × ((x.0, x.1.quantity) ≡ q)
written_of x q e = by_test (x.1.quantity == MOST_QUANTITY) refl e
  where
    by_test : (b : Bool) → (x.1.quantity == MOST_QUANTITY) ≡ b → cond b None (Some (x.0, x.1.quantity)) ≡ Some q → (x.1.quantity ≢ MOST_QUANTITY) × ((x.0, x.1.quantity) ≡ q)
    by_test true is made = absurd (none-some q made)
    by_test false is made = (eqb-false x.1.quantity MOST_QUANTITY is, same_Some (x.0, x.1.quantity) q made)

is_written : (x : Name × Stock) → x.1.quantity ≢ MOST_QUANTITY → quantity_written x ≡ Some (x.0, x.1.quantity)
is_written x differs = ap (λ b. cond b None (Some (x.0, x.1.quantity))) (false_from_ne_true (x.1.quantity == MOST_QUANTITY) (λ same. differs (eqb-true x.1.quantity MOST_QUANTITY same)))

written_name : (x : Name × Stock) (q : Name × ℕ) → quantity_written x ≡ Some q → q.0 ≡ x.0
written_name x q e = ap (λ (z : Name × ℕ). z.0) (sym (written_of x q e).1)

-- they stand by name
pub quantities_ascend : (rows : List (Name × Stock)) → IsStrictlySortedBy name_cmp (keys_of rows) → (qs : List (Name × ℕ)) → qs ≡ filter_map quantity_written rows → IsStrictlySortedBy name_cmp (keys_of qs)
quantities_ascend rows up qs same =
    subst (λ (z : List (Name × ℕ)). IsStrictlySortedBy name_cmp (keys_of z)) (sym same)
    (some_ascend quantity_written name_cmp (λ (x : Name × Stock). x.0) (λ (q : Name × ℕ). q.0) written_name rows up)

module _ (P : Plan) where
  abbrev written : List (Name × ℕ)
  written = filter_map quantity_written (entries P.contents.resources)

  told : (r : PlanRow) → Contains (map quantity_row written) r → IsRowOf 8 P r
  told r has =
      let q = mapped_contains quantity_row written r has in
      let x = made_of_one quantity_written (entries P.contents.resources) q.0 q.2 in
      let it = written_of x.0 q.0 x.2 in
      subst (IsRowOf 8 P) (ap quantity_row it.1 ∙ q.1) ((x.0.1, kept_is name_cmp_total name_cmp-IsAntisymmetric P.contents.resources x.0 x.1, refl, it.0), refl)

  there : (r : PlanRow) → IsRowOf 8 P r → Contains (map quantity_row written) r
  there (row.Quantity name quantity) ((stock, is, same, differs), e) =
      let made = is_written (name, stock) (λ most. differs (sym same ∙ most)) ∙ ap (λ n. Some (name, n)) same in
      contains_mapped quantity_row written (name, quantity) (is_made quantity_written (entries P.contents.resources) (name, stock) (name, quantity) (kept_has name_cmp_total name_cmp-IsAntisymmetric P.contents.resources name stock is) made)
  there r (is, e) = absurd (cc)

  pub are_quantities : (qs : List (Name × ℕ)) → qs ≡ written → AreRowsOf key.Quantity 8 P (keys_of qs) (map quantity_row qs)
  are_quantities qs same =
      subst (λ zs. AreRowsOf key.Quantity 8 P (keys_of zs) (map quantity_row zs)) (sym same)
      (record { keyed = keyed_by key.Quantity quantity_row (λ _. refl) written; all = λ r. (told r, there r) })
