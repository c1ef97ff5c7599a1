-- A plan, and one that has its operations with other marks: their workstations and rows.
use Rattle.std.proofs.Common.{◌≡◌, refl, sym, ap, ◌∙◌, arith, ℕ, ◌<◌, true, false, cond, List, [], ◌∷◌, length, slice_get, Option, Some, None, option_map}
use Rattle.std.specs.FinMap.{entries, find, get-entries}
use Rattle.std.specs.Ordering.{eq_by_cmp}
use Rattle.std.proofs.lemmas.List.{length-map}
use Rattle.std.proofs.lemmas.Option.{slice_get-get_or, slice_get-map, slice_get_within, some_pair_parts}
use Rattle.plan_basics.specs.Keys.{Name, name_cmp}
use Rattle.plan_basics.specs.declared.Attr.{Attr}
use Rattle.plan_basics.specs.declared.keys.OpKey.{OpKey}
use Rattle.plan_model.specs.Contents.{Contents, Operation, attribute_at}
use Rattle.plan_model.specs.Moves.{IsMovedAt, reporting}
use Rattle.derived_figures.specs.Between.{IsRemarkedPlan}
use Rattle.workstations.specs.Timetables.{NamedWorkstation}
use Rattle.workstations.specs.Workstations.{Workstation}

-- how a workstation reports is found among how all report
find_reporting : (w : Name) (ws : List NamedWorkstation) → option_map (λ (v : Workstation). v.attribute) (find name_cmp w ws) ≡ find name_cmp w (reporting ws)
find_reporting w [] = refl
find_reporting w (e ∷ ws) = elim (eq_by_cmp name_cmp w e.0) as (λ b. option_map (λ (v : Workstation). v.attribute) (cond b (Some e.1) (find name_cmp w ws)) ≡ cond b (Some e.1.attribute) (find name_cmp w (reporting ws))) [
  | true ↦ refl
  | false ↦ find_reporting w ws
]

-- what reports under a name is a workstation of that name
reports : (w : Name) (a : Attr) (found : Option NamedWorkstation) → option_map {U = Name × Attr} (λ (v : NamedWorkstation). (v.0, v.1.attribute)) found ≡ Some (w, a) → (ws : Workstation) × (found ≡ Some (w, ws))
reports w a None e = cc
reports w a (Some v) e =
    let same = some_pair_parts v.0 w v.1.attribute a e in
    (v.1, ap (λ z. Some (z, v.1)) same.0)

module _ (P Q : Contents) (alike : IsRemarkedPlan P Q) where
  pub attribute_same : (w : Name) → attribute_at Q w ≡ attribute_at P w
  attribute_same w =
      ap (option_map (λ (v : Workstation). v.attribute)) (get-entries Q.workstations w) ∙ find_reporting w (entries Q.workstations)
      ∙ ap (find name_cmp w) alike.workstations
      ∙ sym (ap (option_map (λ (v : Workstation). v.attribute)) (get-entries P.workstations w) ∙ find_reporting w (entries P.workstations))

  abbrev report : NamedWorkstation → Name × Attr
  report v = (v.0, v.1.attribute)

  -- at each place the same workstation
  pub station_before : (i : ℕ) (w : Name) (ws : Workstation) → slice_get (entries Q.workstations) i ≡ Some (w, ws) → (v : Workstation) × (slice_get (entries P.workstations) i ≡ Some (w, v))
  station_before i w ws at =
      reports w ws.attribute (slice_get (entries P.workstations) i)
      (sym (slice_get-map report (entries P.workstations) i) ∙ ap (λ rows. slice_get rows i) (sym alike.workstations)
      ∙ slice_get-map report (entries Q.workstations) i ∙ ap (option_map report) at)

  pub as_many_stations : length (entries P.workstations) ≡ length (entries Q.workstations)
  as_many_stations =
      let a = length-map (entries P.workstations) report in
      let b = length-map (entries Q.workstations) report in
      omega (arith, a, b, ap length alike.workstations)

  named_so : (i : ℕ) (o : OpKey) (old : Operation) → slice_get (entries P.operations) i ≡ Some (o, old) → (row : OpKey × Operation) → slice_get (entries Q.operations) i ≡ Some row
      → (new : Operation) × (slice_get (entries Q.operations) i ≡ Some (o, new))
  named_so i o old at row found =
      let was = alike.rows i row.0 row.1 found in
      let name : o ≡ row.0 = (some_pair_parts o row.0 old was.before (sym at ∙ was.row)).0 in
      (row.1, found ∙ ap (λ z. Some (z, row.1)) (sym name))

  -- at each place the same operation
  pub row_after : (i : ℕ) (o : OpKey) (old : Operation) → slice_get (entries P.operations) i ≡ Some (o, old) → (new : Operation) × (slice_get (entries Q.operations) i ≡ Some (o, new))
  row_after i o old at =
      let lt : i < length (entries Q.operations) = omega (arith, slice_get_within (entries P.operations) i (o, old) at, alike.size) in
      named_so i o old at _ (slice_get-get_or (entries Q.operations) i (o, old) lt)

-- where operations are moved, there are the same ones with other marks
pub remarked_by_move : (P Q : Contents) (places : List ℕ) → IsMovedAt P Q places → IsRemarkedPlan P Q
remarked_by_move P Q places moved = record {
  workstations = moved.workstations;
  size = moved.size;
  rows = λ i o op at. let row = moved.rows i o op at in record { before = row.before; row = row.was; remarked = row.remarked };
}
