use Rattle.std.proofs.Common.{◌≡◌, ◌<◌, sym, ap, subst, ◌∙◌, arith, Some, length, option_map, slice_get}
use Rattle.std.proofs.lemmas.Option.{same_Some}
use Rattle.std.specs.FinMap.{entries, get}
use Rattle.plan_basics.specs.Keys.{Name, name_cmp_total, name_cmp-IsAntisymmetric}
use Rattle.plan_basics.specs.declared.keys.OpKey.{OpKey}
use Rattle.plan_laws.specs.plan_drafts.proofs.EntryRows.{row_in}
use Rattle.plan_model.specs.Contents.{Contents, HasAttribute, Operation}
use Rattle.plan_model.specs.Valid.{IsValid}
use Rattle.plan_model.specs.workstations.specs.Workstations.{Workstation}
use Rattle.plan_status.proofs.RowKeys.{key_of_row, row_lent}
use Rattle.plan_status.proofs.Workplaces.{own_place, workplace_known}
use Rattle.plan_status.proofs.summaries.summary_of.Goals as goal

pub known_workstation_place_near-station-requires : goal.known_workstation_place_near-station-requires
known_workstation_place_near-station-requires c =
    let on = subst (λ (P : Contents). (o : OpKey) × (get P.operations o ≡ Some c.args.operation.now)) (sym c.rows-rows.ensures.contents) c.requires in
    workplace_known c.rows-rows.result.now (subst IsValid (sym c.rows-rows.ensures.contents) c.rows-rows.ensures.valid) c.operation.view_is on

pub returns : goal.returns
returns c =
    let P = c.args.contents.now in
    let op = c.args.operation.now in
    let station = c.known_workstation_place_near-station.result in
    let at : (ws : Workstation) × (slice_get (entries P.workstations) station ≡ Some (op.workstation, ws)) =
    subst (λ (Q : Contents). (ws : Workstation) × (slice_get (entries Q.workstations) station ≡ Some (op.workstation, ws))) c.rows-rows.ensures.contents
    (own_place (entries c.rows-rows.result.now.workstations) station c.operation.inside.workstation op.workstation (ap (λ (x : Operation). x.workstation) c.operation.view_is) c.known_workstation_place_near-station.ensures.at) in
    let row = c.index-workstations-station.result in
    let lent = c.workstations.ensures.rows ∙ ap (λ (Q : Contents). entries Q.workstations) c.rows-rows.ensures.contents in
    let within : station < length c.workstations.result.now = omega (arith, c.known_workstation_place_near-station.ensures.within, ap length c.workstations.ensures.rows) in
    let here = row_lent c.workstations.result.now (entries P.workstations) lent station row within c.index-workstations-station.is in
    let same : row ≡ (op.workstation, at.0) = same_Some row (op.workstation, at.0) (sym here ∙ at.1) in
    let reports : HasAttribute P op.workstation c.attribute.result =
    ap (option_map (λ (ws : Workstation). ws.attribute)) (row_in name_cmp_total name_cmp-IsAntisymmetric P.workstations station op.workstation at.0 at.1)
    ∙ ap Some (ap (λ (z : Name × Workstation). z.1.attribute) (sym same) ∙ sym c.attribute.ensures.value) in
    record {
      mark = ap (λ (x : Operation). x.mark) c.operation.view_is;
      held = ap (λ (x : Operation). x.held) c.operation.view_is;
      nop = ap (λ (x : Operation). x.nop) c.operation.view_is;
      attribute = reports;
      station = key_of_row (entries P.workstations) station op.workstation at.0 at.1;
      duration = ap (λ (x : Operation). x.duration) c.operation.view_is;
      deadline = ap (λ (x : Operation). x.deadline) c.operation.view_is;
      r1 = ap (λ (x : Operation). x.r1) c.operation.view_is;
      r2 = ap (λ (x : Operation). x.r2) c.operation.view_is;
    }
