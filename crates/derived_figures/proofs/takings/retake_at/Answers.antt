use Rattle.std.proofs.Common.{◌≡◌, sym, ap, subst, ◌∙◌, ◌<◌, arith, length, slice_get, Some}
use Rattle.std.specs.FinMap.{entries, get}
use Rattle.std.proofs.lemmas.Option.{slice_get-get_or, slice_get_within}
use Rattle.std.proofs.lemmas.Result.{on_ok_weaker}
use Rattle.plan_basics.specs.declared.keys.OpKey.{OpKey}
use Rattle.plan_model.specs.Contents.{Contents, Operation, attribute_at}
use Rattle.plan_model.specs.Holdings.{takes}
use Rattle.start_choice.specs.plan_status.proofs.LoadedRows.{row_found}
use Rattle.workstations.specs.Workstations.{Workstation}
use Rattle.derived_figures.specs.Marked.{with_taking}
use Rattle.derived_figures.proofs.TakingsBefore.{given_anew_there, given_still, held_anew_there, held_still}
use Rattle.derived_figures.proofs.takings.retake_at.Goals as goal
use Rattle.derived_figures.proofs.takings.retake_at.Goals.{After-see}

-- the row that is seen
abbrev row_seen : After-see → OpKey × Operation
row_seen c = (c.see.result.key.now, c.see.result.operation.now)

-- it is in what stands beside it
found_there : (c : After-see) → (o : OpKey) × (get c.see.result.uncounted.contents.now.operations o ≡ Some (row_seen c).1)
found_there c =
    let row = row_seen c in
    (row.0, subst (λ (Q : Contents). get Q.operations row.0 ≡ Some row.1) (sym c.see.ensures.uncounted) (row_found c.args.records.now.contents c.args.place row.0 row.1 c.see.ensures.row))

-- whether starts are known there is told of the plan of these records
known_there : (c : After-see) {b : _} → b ≡ takes (attribute_at c.see.result.uncounted.contents.now (row_seen c).1.workstation) → b ≡ takes (attribute_at c.args.records.now.contents (row_seen c).1.workstation)
known_there c {b} = subst (λ (Q : Contents). b ≡ takes (attribute_at Q (row_seen c).1.workstation)) c.see.ensures.uncounted

pub starts_are_known-requires : goal.starts_are_known-requires
starts_are_known-requires c = found_there (goal.at.starts_are_known-requires c).After-see

pub workstation_place_near-station-requires : goal.workstation_place_near-station-requires
workstation_place_near-station-requires c = found_there (goal.at.workstation_place_near-station-requires c).After-see

pub returns-then-not-starts_are_known-clause-given : goal.returns-then-not-starts_are_known-clause-given
returns-then-not-starts_are_known-clause-given c P from =
    let p = (goal.at.returns-then-not-starts_are_known-clause-given c).After-see in
    given_still P c.args.records.now.contents c.args.place c.args.marking.now c.args.given.now c.args.holdings.now.held from (row_seen p) c.see.ensures.row
    (sym (known_there p c.starts_are_known.ensures) ∙ c.if-not-starts_are_known.true)

pub returns-then-not-starts_are_known-clause-held : goal.returns-then-not-starts_are_known-clause-held
returns-then-not-starts_are_known-clause-held c P from =
    let p = (goal.at.returns-then-not-starts_are_known-clause-held c).After-see in
    held_still P c.args.records.now.contents c.args.place c.args.marking.now c.args.given.now c.args.holdings.now.held from (row_seen p) c.see.ensures.row
    (sym (known_there p c.starts_are_known.ensures) ∙ c.if-not-starts_are_known.true)

pub returns-clause-given : goal.returns-clause-given
returns-clause-given c =
    let p = (goal.at.returns-clause-given c).After-see in
    let Q = c.args.records.now.contents in
    let known = sym (known_there p c.starts_are_known.ensures) ∙ c.if-not-starts_are_known.false in
    let place = c.workstation_place_near-station.result in
    let station = subst (λ (R : Contents). (value : Workstation) × (slice_get (entries R.workstations) place ≡ Some ((row_seen p).1.workstation, value))) c.see.ensures.uncounted c.workstation_place_near-station.ensures.at in
    let within : place < length c.args.given.now = omega (arith, c.requires.stations, slice_get_within (entries Q.workstations) place _ station.1) in
    on_ok_weaker c.retake_needs.result
    (λ retaken P from. given_anew_there P Q c.args.place c.args.marking.now c.args.given.now c.args.holdings.now.held from (row_seen p) c.see.ensures.row known
    c.see.ensures.sound.valid place station.0 station.1 _ (slice_get-get_or c.args.given.now place _ within) c.given_anew.result
    (λ rest small e. c.given_anew.ensures rest small (e ∙ ap (with_taking rest) (sym c.put_on-old.ensures)))) c.retake_needs.ensures.retaken

pub returns-clause-held : goal.returns-clause-held
returns-clause-held c =
    let p = (goal.at.returns-clause-held c).After-see in
    let known = sym (known_there p c.starts_are_known.ensures) ∙ c.if-not-starts_are_known.false in
    on_ok_weaker c.retake_needs.result
    (λ retaken P from. held_anew_there P c.args.records.now.contents c.args.place c.args.marking.now c.args.given.now c.args.holdings.now.held from (row_seen p) c.see.ensures.row known c.retake_needs.new.holdings.held retaken)
    c.retake_needs.ensures.retaken
