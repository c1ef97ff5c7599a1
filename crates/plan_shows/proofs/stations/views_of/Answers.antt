use Rattle.std.proofs.Common.{◌≡◌, ◌<◌, ◌∙◌, refl, subst, arith, length, slice_get, Some}
use Rattle.std.proofs.lemmas.List.{take_all}
use Rattle.std.proofs.lemmas.Option.{slice_get-get_or, slice_get_read}
use Rattle.std.specs.List.{AllZip}
use Rattle.plan_basics.specs.Keys.{name_cmp_total, name_cmp-IsAntisymmetric}
use Rattle.plan_reasons.specs.plan_drafts.proofs.EntryRows.{row_in}
use Rattle.plan_shows.specs.Stations.{IsWorkstationView}
use Rattle.plan_shows.proofs.Beside.{zip_more}
use Rattle.plan_shows.proofs.stations.views_of.Goals as goal

pub put_view-requires-clause-there : goal.put_view-requires-clause-there
put_view-requires-clause-there c =
    let ws = c.index-workstations-place.result in
    let place = c.loop-place.place in
    let there = slice_get_read c.args.workstations.now (length c.args.workstations.now) place ws refl c.loop-place-test.true c.index-workstations-place.is in
    row_in name_cmp_total name_cmp-IsAntisymmetric c.args.plan.now.plan.contents.workstations place ws.0 ws.1 (subst (λ rows. slice_get rows place ≡ Some ws) c.requires.rows there)

pub put_view-requires-clause-given : goal.put_view-requires-clause-given
put_view-requires-clause-given c =
    let ws = c.index-workstations-place.result in
    let place = c.loop-place.place in
    let there = slice_get_read c.args.workstations.now (length c.args.workstations.now) place ws refl c.loop-place-test.true c.index-workstations-place.is in
    let within : place < length c.args.given.now = omega (arith, c.loop-place-test.true, c.requires.given.size) in
    c.requires.given.each place ws.0 ws.1 _ there (slice_get-get_or c.args.given.now place _ within)

pub loop-place-preserved : goal.loop-place-preserved
loop-place-preserved c =
    let put = c.in_ok-put_view.ensures in
    rw put.1
    (zip_more (IsWorkstationView c.args.plan.now.plan) c.args.workstations.now c.loop-place.views.items c.loop-place.place c.index-workstations-place.result put.0 c.loop-place-test.true
    c.index-workstations-place.is c.loop-place.invariant put.2)

pub returns : goal.returns
returns c = subst (λ rows. AllZip (IsWorkstationView c.args.plan.now.plan) rows c.loop-place.views.items) (take_all c.loop-place.place c.args.workstations.now c.loop-place-test.false ∙ c.requires.rows) c.loop-place.invariant
