use Rattle.std.proofs.Common.{refl, ap, ◌∙◌}
use Rattle.std.specs.FinMap.{insert}
use Rattle.plan_basics.specs.Keys.{operation_cmp, operation_cmp_total, operation_cmp-IsAntisymmetric}
use Rattle.plan_records.specs.plan_model.specs.Markings.{with_marking}
use Rattle.plan_records.specs.plan_model.specs.declared.moves.Marking.{Marking}
use Rattle.plan_records.specs.plan_drafts.proofs.OneRow.{unrevised}
use Rattle.plan_changes.proofs.Put.{put_made}
use Rattle.plan_changes.proofs.commands.set_held.Goals as goal

pub returns-in-Some : goal.returns-in-Some
returns-in-Some c =
    let old = c.args.contents.now in
    let k = c.args.key.now in
    let op = c.in-Some.operation.now in
    c.set_marking.ensures.there op c.in-Some.ensures.found
    ∙ ap (λ (m : Marking). record old { operations = insert old.operations k (with_marking (record m { held = c.args.held }) op) }) c.of.ensures
    ∙ ap (λ m. record old { operations = m }) (put_made operation_cmp_total operation_cmp-IsAntisymmetric k (λ x. record x { held = c.args.held }) old.operations op c.in-Some.ensures.found)

pub returns-in_default : goal.returns-in_default
returns-in_default c = ap (λ m. record c.args.contents.now { operations = m }) (unrevised operation_cmp operation_cmp_total operation_cmp-IsAntisymmetric c.args.key.now (λ op. record op { held = c.args.held }) c.args.contents.now.operations (c.in_default.ensures.absent refl))
