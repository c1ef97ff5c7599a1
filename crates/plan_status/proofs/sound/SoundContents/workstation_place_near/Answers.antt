use Rattle.std.proofs.Common.{◌≡◌, ◌<◌, sym, ap, subst, length, Some, slice_get}
use Rattle.std.specs.FinMap.{entries, get}
use Rattle.plan_basics.specs.declared.keys.OpKey.{OpKey}
use Rattle.plan_model.specs.Valid.{IsValid}
use Rattle.plan_model.specs.Contents.{Contents, Operation}
use Rattle.plan_model.specs.workstations.specs.Workstations.{Workstation}
use Rattle.plan_status.proofs.Workplaces.{own_place, workplace_known}
use Rattle.plan_status.proofs.sound.SoundContents.workstation_place_near.Goals as goal

pub known_workstation_place_near-requires : goal.known_workstation_place_near-requires
known_workstation_place_near-requires c =
    let on = subst (λ (P : Contents). (o : OpKey) × (get P.operations o ≡ Some c.args.operation.now)) (sym c.rows.ensures.contents) c.requires in
    workplace_known c.rows.result.now (subst IsValid (sym c.rows.ensures.contents) c.rows.ensures.sound.valid) c.operation.view_is on

pub returns-clause-within : goal.returns-clause-within
returns-clause-within c = subst (λ (P : Contents). c.known_workstation_place_near.result < length (entries P.workstations)) c.rows.ensures.contents c.known_workstation_place_near.ensures.within

pub returns-clause-at : goal.returns-clause-at
returns-clause-at c =
    let place = c.known_workstation_place_near.result in
    let name = c.args.operation.now.workstation in
    subst (λ (P : Contents). (value : Workstation) × (slice_get (entries P.workstations) place ≡ Some (name, value))) c.rows.ensures.contents
    (own_place (entries c.rows.result.now.workstations) place c.operation.inside.workstation name (ap (λ (op : Operation). op.workstation) c.operation.view_is) c.known_workstation_place_near.ensures.at)
