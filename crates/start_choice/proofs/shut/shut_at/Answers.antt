use Rattle.std.proofs.Common.{refl, subst, List, set}
use Rattle.std.proofs.lemmas.List.{set-get_or}
use Rattle.std.proofs.lemmas.Option.{slice_get_read}
use Rattle.workstations.specs.declared.Capacity.{Capacity}
use Rattle.start_choice.specs.Shut.{AreShut}
use Rattle.start_choice.proofs.Shutting.{none_told, told_one}
use Rattle.start_choice.proofs.shut.shut_at.Goals as goal

pub loop-place-init : goal.loop-place-init
loop-place-init c = rw (c.in_ok-shut.ensures.items_if_clones_equal (λ y e. e)) (none_told c.args.workstations.now c.args.at c.args.given.now _ c.requires refl)

pub loop-place-preserved : goal.loop-place-preserved
loop-place-preserved c =
    let rows = c.args.workstations.now in
    let given = c.args.given.now in
    let shut = c.loop-place.shut.items in
    let place = c.loop-place.place in
    let w = c.index-workstations-place.result in
    subst (λ (all : List Capacity). AreShut rows c.args.at all (set shut place c.names_none.result)) (set-get_or given place _)
    (told_one rows c.args.at given shut c.loop-place.invariant place w (slice_get_read rows _ place w refl c.loop-place-test.true c.index-workstations-place.is) _ c.names_none.result c.names_none.ensures)
