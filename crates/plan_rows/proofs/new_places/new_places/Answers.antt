use Rattle.plan_basics.specs.Keys.{operation_cmp-IsAntisymmetric}
use Rattle.plan_rows.proofs.NewPlaces.{are_new, keys_ascend, new_few}
use Rattle.plan_rows.proofs.new_places.new_places.Goals as goal
use Rattle.plan_rows.specs.Sources.{contents_if_any, source_if_any}

pub differences-requires-clause-exact : goal.differences-requires-clause-exact
differences-requires-clause-exact c = operation_cmp-IsAntisymmetric

pub differences-requires-clause-before : goal.differences-requires-clause-before
differences-requires-clause-before c = keys_ascend (contents_if_any (source_if_any c.args.before))

pub differences-requires-clause-after : goal.differences-requires-clause-after
differences-requires-clause-after c = keys_ascend c.args.after.now.contents.now

pub returns-clause-places : goal.returns-clause-places
returns-clause-places c = are_new (contents_if_any (source_if_any c.args.before)) c.args.after.now.contents.now c.in_ok-found.found.changed.items c.in_ok-found.found.gone.items c.in_ok-found.ensures

pub returns-clause-few : goal.returns-clause-few
returns-clause-few c =
    let P = contents_if_any (source_if_any c.args.before) in
    let Q = c.args.after.now.contents.now in
    new_few P Q c.requires c.in_ok-found.found.changed.items (are_new P Q c.in_ok-found.found.changed.items c.in_ok-found.found.gone.items c.in_ok-found.ensures)
