use Rattle.std.proofs.Common.{arith, ◌≡◌, refl, ap, w64, FitsSigned, to_z, of_z}
use Rattle.std.specs.FinMap.{entries}
use Rattle.std.proofs.lemmas.Int.{ints}
use Rattle.plan_model.specs.Contents.{Operation}
use Rattle.counted_records.specs.plan_status.proofs.RowKeys.{key_of_row}
use Rattle.start_choice.proofs.Readied.{has_entry}
use Rattle.start_choice.proofs.ready.entry_with.Goals as goal

pub priority_of-requires : goal.priority_of-requires
priority_of-requires c = (c.args.operation.now, c.requires)

pub returns-clause-entry : goal.returns-clause-entry
returns-clause-entry c =
    let fits : FitsSigned w64 c.args.latest = c.ranges.latest in
    let latest : to_z w64 (of_z w64 c.args.latest) ≡ c.args.latest = omega (arith, ints, fits) in
    has_entry c.args.uncounted.now.contents.now c.args.key.now c.args.operation.now c.args.latest c.workstation_place_near.result c.args.place c.requires refl latest
    (ap (λ (op : Operation). op.duration) c.operation.view_is)
    c.priority_of.ensures
    (ap (λ (op : Operation). op.workstation) c.operation.view_is)
    c.attribute_of.ensures
    (key_of_row (entries c.args.uncounted.now.contents.now.workstations) c.workstation_place_near.result c.args.operation.now.workstation c.workstation_place_near.ensures.at.0 c.workstation_place_near.ensures.at.1)
