-- The rows of each table for the plan of a source.
use Rattle.std.proofs.Common.{◌≡◌, refl, sym, subst, ap, ◌∙◌, List, [], ◌∷◌, map, Contains, Option, Some, None, option_map}
use Rattle.std.specs.FinMap.{entries, get}
use Rattle.std.specs.FinSet as set
use Rattle.std.proofs.lemmas.Option.{same_Some}
use Rattle.plan_basics.proofs.Members.{contains_mapped, mapped_contains}
use Rattle.plan_basics.specs.Keys.{Name, name_cmp-IsAntisymmetric, name_cmp_total}
use Rattle.plan_basics.specs.declared.Attr.{Attr}
use Rattle.plan_basics.specs.declared.keys.OpKey.{OpKey}
use Rattle.plan_records.specs.plan_drafts.proofs.Tables.{from_set, in_set}
use Rattle.plan_records.specs.plan_drafts.specs.declared.RowKey.TheVariants as key
use Rattle.derived_figures.specs.plan_laws.proofs.Pairs.{pair_cmp-IsAntisymmetric, pair_cmp_total}
use Rattle.plan_model.specs.Plan.{Plan}
use Rattle.plan_model.specs.declared.Stock.{Stock}
use Rattle.plan_records.specs.Rows.{key_of}
use Rattle.plan_records.specs.declared.PlanRow.{PlanRow}
use Rattle.plan_records.specs.declared.PlanRow.TheVariants as row
use Rattle.plan_rows.proofs.KeptRows.{kept_from, kept_there, keyed_by}
use Rattle.plan_rows.specs.Rows.{dependency_row, resource_row, workstation_row}
use Rattle.plan_rows.specs.Tables.{AreRowsOf, IsRowOf}
use Rattle.std.specs.Map.{keys_of}
use Rattle.workstations.specs.Timetables.{NamedWorkstation}
use Rattle.workstations.specs.Workstations.{Workstation}

module _ (P : Plan) where
  -- ---- special resources
  resource_there : (r : PlanRow) → IsRowOf 3 P r → Contains (map resource_row (entries P.contents.resources)) r
  resource_there (row.Resource name available) ((stock, is, same), e) =
      subst (λ a. Contains (map resource_row (entries P.contents.resources)) (row.Resource name a)) same (kept_there name_cmp_total name_cmp-IsAntisymmetric resource_row P.contents.resources name stock is)
  resource_there r (is, e) = absurd (cc)

  resource_told : (r : PlanRow) → Contains (map resource_row (entries P.contents.resources)) r → IsRowOf 3 P r
  resource_told r has = let h = kept_from name_cmp_total name_cmp-IsAntisymmetric resource_row P.contents.resources r has in subst (IsRowOf 3 P) h.3 ((h.1, h.2, refl), refl)

  pub are_resources : (xs : List (Name × Stock)) → xs ≡ entries P.contents.resources → AreRowsOf key.Resource 3 P (keys_of xs) (map resource_row xs)
  are_resources xs same =
      subst (λ ys. AreRowsOf key.Resource 3 P (keys_of ys) (map resource_row ys)) (sym same)
      (record { keyed = keyed_by key.Resource resource_row (λ _. refl) (entries P.contents.resources); all = λ r. (resource_told r, resource_there r) })

  -- ---- workstations
  with_attribute : (o : Option Workstation) (a : Attr) → option_map (λ ws. ws.attribute) o ≡ Some a → (ws : Workstation) × (o ≡ Some ws) × (ws.attribute ≡ a)
  with_attribute None a e = absurd (cc)
  with_attribute (Some ws) a e = (ws, refl, same_Some ws.attribute a e)

  workstation_there : (r : PlanRow) → IsRowOf 1 P r → Contains (map workstation_row (entries P.contents.workstations)) r
  workstation_there (row.Workstation name a) (is, e) =
      let h = with_attribute (get P.contents.workstations name) a is in
      subst (λ b. Contains (map workstation_row (entries P.contents.workstations)) (row.Workstation name b)) h.2 (kept_there name_cmp_total name_cmp-IsAntisymmetric workstation_row P.contents.workstations name h.0 h.1)
  workstation_there r (is, e) = absurd (cc)

  workstation_told : (r : PlanRow) → Contains (map workstation_row (entries P.contents.workstations)) r → IsRowOf 1 P r
  workstation_told r has = let h = kept_from name_cmp_total name_cmp-IsAntisymmetric workstation_row P.contents.workstations r has in subst (IsRowOf 1 P) h.3 (ap (option_map (λ ws. ws.attribute)) h.2, refl)

  pub are_workstations : (xs : List NamedWorkstation) → xs ≡ entries P.contents.workstations → AreRowsOf key.Workstation 1 P (keys_of xs) (map workstation_row xs)
  are_workstations xs same =
      subst (λ ys. AreRowsOf key.Workstation 1 P (keys_of ys) (map workstation_row ys)) (sym same)
      (record { keyed = keyed_by key.Workstation workstation_row (λ _. refl) (entries P.contents.workstations); all = λ r. (workstation_told r, workstation_there r) })

  -- ---- dependencies
  dependency_there : (pairs : List (OpKey × OpKey)) → set.from_list pairs ≡ P.contents.pairs → (r : PlanRow) → IsRowOf 6 P r → Contains (map dependency_row pairs) r
  dependency_there pairs same (row.Dependency p s) (is, e) = contains_mapped dependency_row pairs (p, s) (from_set pair_cmp_total pair_cmp-IsAntisymmetric pairs (p, s) (ap (λ z. set.contains z (p, s)) same ∙ is))
  dependency_there pairs same r (is, e) = absurd (cc)

  dependency_told : (pairs : List (OpKey × OpKey)) → set.from_list pairs ≡ P.contents.pairs → (r : PlanRow) → Contains (map dependency_row pairs) r → IsRowOf 6 P r
  dependency_told pairs same r has =
      let h = mapped_contains dependency_row pairs r has in
      subst (IsRowOf 6 P) h.1 (ap (λ z. set.contains z h.0) (sym same) ∙ in_set pair_cmp_total pair_cmp-IsAntisymmetric pairs h.0 h.2, refl)

  keyed_pairs : (pairs : List (OpKey × OpKey)) → map key_of (map dependency_row pairs) ≡ map (λ x. key.Dependency x.0 x.1) pairs
  keyed_pairs [] = refl
  keyed_pairs (x ∷ pairs) = λ i. key.Dependency x.0 x.1 ∷ keyed_pairs pairs i

  pub are_dependencies : (pairs : List (OpKey × OpKey)) → set.from_list pairs ≡ P.contents.pairs → AreRowsOf (λ x. key.Dependency x.0 x.1) 6 P pairs (map dependency_row pairs)
  are_dependencies pairs same = record { keyed = keyed_pairs pairs; all = λ r. (dependency_told pairs same r, dependency_there pairs same r) }
