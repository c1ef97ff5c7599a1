-- The tables of which no row differs where only marks and flags of operations do.
use Rattle.std.proofs.Common.{◌≡◌, ◌↔◌, refl, sym, ap, subst, ◌∙◌, ℕ, ◌+◌, List, [], ◌∷◌, map, Contains, Option, Some, None, option_map}
use Rattle.std.specs.FinMap.{entries, get}
use Rattle.std.specs.FinSet as set
use Rattle.std.proofs.lemmas.List.{append-nil}
use Rattle.std.proofs.lemmas.Option.{none-some, same_Some}
use Rattle.plan_basics.proofs.Members.{contains_none}
use Rattle.plan_basics.specs.Keys.{Name}
use Rattle.plan_basics.specs.declared.Attr.{Attr}
use Rattle.plan_records.specs.plan_drafts.specs.declared.RowKey.{RowKey}
use Rattle.plan_model.specs.Contents.{Pairs, Workstations}
use Rattle.plan_model.specs.Plan.{Plan}
use Rattle.plan_model.specs.declared.Stock.{Stock}
use Rattle.plan_model.specs.Moves.{reporting}
use Rattle.plan_records.specs.Rows.{key_of, row_cmp}
use Rattle.plan_records.specs.declared.Changes.{Changes}
use Rattle.plan_records.specs.declared.PlanRow.{PlanRow}
use Rattle.plan_records.specs.declared.PlanRow.TheVariants as row
use Rattle.plan_rows.proofs.MovedRows.{needs_are, needs_were}
use Rattle.plan_rows.proofs.NoRows.{contents_of_plan, none_ascend}
use Rattle.plan_rows.proofs.OneMore.{one_more_table}
use Rattle.plan_rows.proofs.TableRows.{are_resources, are_workstations}
use Rattle.plan_rows.specs.Rows.{workstation_row, resource_row}
use Rattle.plan_rows.specs.Sources.{contents_if_any, plan_if_any}
use Rattle.plan_rows.specs.Tables.{AreChangesBelow, AreRowsOf, IsRowOf}
use Rattle.plan_rows.specs.Touched.{AreMovedAmong, KeepsQuantities}
use Rattle.plan_rows.specs.declared.row_sources.RowSource.{RowSource}
use Rattle.row_differences.specs.Changes.{AreRowChanges}
use Rattle.workstations.specs.Timetables.{NamedWorkstation}
use Rattle.workstations.specs.Workstations.{Workstation}

module _ (n : ℕ) (P Q : Plan) where
  -- what changes in a table of which each row stays
  pub table_stays : ((r : PlanRow) → IsRowOf n P r ↔ IsRowOf n Q r) → (c : Changes) → AreChangesBelow n P Q c → AreChangesBelow (n + 1) P Q c
  table_stays same c so_far = one_more_table n P Q c c [] [] (sym (append-nil c.rows.items)) (sym (append-nil c.gone.items)) so_far none
    where
      none : AreRowChanges row_cmp key_of (IsRowOf n P) (IsRowOf n Q) [] []
      none = record {
        rows_ascend = none_ascend row_cmp;
        has_rows = λ r. (λ has. absurd (contains_none r has), λ h. absurd (h.1 ((same r).1 h.0)));
        gone_ascend = none_ascend row_cmp;
        has_gone = λ k. (λ has. absurd (contains_none k has), λ h. let ((r, was, e), not) = h in absurd (not (r, (same r).0 was, e)));
      }

  -- tables of the same rows
  same_rows : {K : Type 0} {name : K → RowKey} (keys ks : List K) (olds news : List PlanRow) → AreRowsOf name n P keys olds → AreRowsOf name n Q ks news → news ≡ olds → (r : PlanRow) → IsRowOf n P r ↔ IsRowOf n Q r
  same_rows keys ks olds news was is same r = (
    λ h. (is.all r).0 (subst (λ rows. Contains rows r) (sym same) ((was.all r).1 h)),
    λ h. (was.all r).0 (subst (λ rows. Contains rows r) same ((is.all r).1 h)),
  )

rows_reported : (ws : List NamedWorkstation) → map workstation_row ws ≡ map (λ (x : Name × Attr). row.Workstation x.0 x.1) (reporting ws)
rows_reported [] = refl
rows_reported (w ∷ ws) = λ i. row.Workstation w.0 w.1.attribute ∷ rows_reported ws i

intervals_kept : (P Q : Plan) → P.contents.workstations ≡ Q.contents.workstations → (r : PlanRow) → IsRowOf 2 P r → IsRowOf 2 Q r
intervals_kept P Q same (row.Interval w i) (is, e) = (subst (λ (all : Workstations). (ws : Workstation) × (get all w ≡ Some ws) × (get ws.intervals i.from ≡ Some i)) same is, e)
intervals_kept P Q same r (is, e) = absurd (cc)

dependencies_kept : (P Q : Plan) → P.contents.pairs ≡ Q.contents.pairs → (r : PlanRow) → IsRowOf 6 P r → IsRowOf 6 Q r
dependencies_kept P Q same (row.Dependency p s) (is, e) = (ap (λ (pairs : Pairs). set.contains pairs (p, s)) (sym same) ∙ is, e)
dependencies_kept P Q same r (is, e) = absurd (cc)

module _ (P Q : Plan) (touched : List ℕ) (h : AreMovedAmong P.contents Q.contents touched) where
  needs_stay_after : (r : PlanRow) → IsRowOf 7 P r → IsRowOf 7 Q r
  needs_stay_after (row.Need o r mode keep) ((op, at, (usage, has, uses, keeps)), e) = let (now, there, same) = needs_are P.contents Q.contents touched h o op at in ((now, there, (usage, ap (λ needs. get needs r) same ∙ has, uses, keeps)), e)
  needs_stay_after r (is, e) = absurd (cc)

  needs_stay_before : (r : PlanRow) → IsRowOf 7 Q r → IsRowOf 7 P r
  needs_stay_before (row.Need o r mode keep) ((op, at, (usage, has, uses, keeps)), e) = let (was, there, same) = needs_were P.contents Q.contents touched h o op at in ((was, there, (usage, ap (λ needs. get needs r) (sym same) ∙ has, uses, keeps)), e)
  needs_stay_before r (is, e) = absurd (cc)

  amounts_stay_after : (r : PlanRow) → IsRowOf 9 P r → IsRowOf 9 Q r
  amounts_stay_after (row.Amount o r amount) ((op, at, (usage, has, claims, differs)), e) = let (now, there, same) = needs_are P.contents Q.contents touched h o op at in ((now, there, (usage, ap (λ needs. get needs r) same ∙ has, claims, differs)), e)
  amounts_stay_after r (is, e) = absurd (cc)

  amounts_stay_before : (r : PlanRow) → IsRowOf 9 Q r → IsRowOf 9 P r
  amounts_stay_before (row.Amount o r amount) ((op, at, (usage, has, claims, differs)), e) = let (was, there, same) = needs_were P.contents Q.contents touched h o op at in ((was, there, (usage, ap (λ needs. get needs r) (sym same) ∙ has, claims, differs)), e)
  amounts_stay_before r (is, e) = absurd (cc)

-- the quantity that is found
found_quantity : (stock : Option Stock) (n : ℕ) → option_map (λ s. s.quantity) stock ≡ Some n → (s : Stock) × (stock ≡ Some s) × (s.quantity ≡ n)
found_quantity None n e = absurd (none-some n e)
found_quantity (Some s) n e = (s, refl, same_Some s.quantity n e)

quantity_kept : (P Q : Plan) → KeepsQuantities P.contents Q.contents → (r : PlanRow) → IsRowOf 8 P r → IsRowOf 8 Q r
quantity_kept P Q keeps (row.Quantity r n) ((stock, is, same, differs), e) =
    let now = found_quantity (get Q.contents.resources r) n (keeps r ∙ ap (option_map (λ s. s.quantity)) is ∙ ap Some same) in
    ((now.0, now.1, now.2, differs), e)
quantity_kept P Q keeps r (is, e) = absurd (cc)

module _ (clock now : ℕ) (before after : Option RowSource) (c : Changes) where
  abbrev P : Plan
  P = plan_if_any clock before

  abbrev Q : Plan
  Q = plan_if_any now after

  pub intervals_stay : (contents_if_any after).workstations ≡ (contents_if_any before).workstations → AreChangesBelow 2 P Q c → AreChangesBelow 3 P Q c
  intervals_stay e so_far =
      let same : Q.contents.workstations ≡ P.contents.workstations = ap (λ C. C.workstations) (sym (contents_of_plan now after)) ∙ (e ∙ ap (λ C. C.workstations) (contents_of_plan clock before)) in
      table_stays 2 P Q (λ r. (intervals_kept P Q (sym same) r, intervals_kept Q P same r)) c so_far

  pub resources_stay : (contents_if_any after).resources ≡ (contents_if_any before).resources → AreChangesBelow 3 P Q c → AreChangesBelow 4 P Q c
  resources_stay e so_far =
      let same : Q.contents.resources ≡ P.contents.resources = ap (λ C. C.resources) (sym (contents_of_plan now after)) ∙ (e ∙ ap (λ C. C.resources) (contents_of_plan clock before)) in
      table_stays 3 P Q (same_rows 3 P Q _ _ _ _ (are_resources P _ refl) (are_resources Q _ refl) (ap (λ resources. map resource_row (entries resources)) same)) c so_far

  pub dependencies_stay : (contents_if_any after).pairs ≡ (contents_if_any before).pairs → AreChangesBelow 6 P Q c → AreChangesBelow 7 P Q c
  dependencies_stay e so_far =
      let same : Q.contents.pairs ≡ P.contents.pairs = ap (λ C. C.pairs) (sym (contents_of_plan now after)) ∙ (e ∙ ap (λ C. C.pairs) (contents_of_plan clock before)) in
      table_stays 6 P Q (λ r. (dependencies_kept P Q (sym same) r, dependencies_kept Q P same r)) c so_far

  pub quantities_stay : KeepsQuantities (contents_if_any before) (contents_if_any after) → AreChangesBelow 8 P Q c → AreChangesBelow 9 P Q c
  quantities_stay keeps so_far =
      let same : KeepsQuantities P.contents Q.contents = subst (KeepsQuantities P.contents) (contents_of_plan now after) (subst (λ C. KeepsQuantities C (contents_if_any after)) (contents_of_plan clock before) keeps) in
      table_stays 8 P Q (λ r. (quantity_kept P Q same r, quantity_kept Q P (λ n. sym (same n)) r)) c so_far

  module _ (touched : List ℕ) (h : AreMovedAmong (contents_if_any before) (contents_if_any after) touched) where
    moved : AreMovedAmong P.contents Q.contents touched
    moved = subst (λ C. AreMovedAmong P.contents C touched) (contents_of_plan now after) (subst (λ C. AreMovedAmong C (contents_if_any after) touched) (contents_of_plan clock before) h)

    pub workstations_stay : AreChangesBelow 1 P Q c → AreChangesBelow 2 P Q c
    workstations_stay so_far =
        let same = rows_reported (entries Q.contents.workstations) ∙ (ap (map (λ (x : Name × Attr). row.Workstation x.0 x.1)) moved.moved.workstations ∙ sym (rows_reported (entries P.contents.workstations))) in
        table_stays 1 P Q (same_rows 1 P Q _ _ _ _ (are_workstations P _ refl) (are_workstations Q _ refl) same) c so_far

    pub amounts_stay : AreChangesBelow 9 P Q c → AreChangesBelow 10 P Q c
    amounts_stay so_far = table_stays 9 P Q (λ r. (amounts_stay_after P Q touched moved r, amounts_stay_before P Q touched moved r)) c so_far

    pub needs_stay : AreChangesBelow 7 P Q c → AreChangesBelow 8 P Q c
    needs_stay so_far = table_stays 7 P Q (λ r. (needs_stay_after P Q touched moved r, needs_stay_before P Q touched moved r)) c so_far
