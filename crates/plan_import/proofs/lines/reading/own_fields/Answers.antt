use Rattle.std.proofs.Common.{rules, ◌≡◌, ◌∙◌, ap, sym, ◌++◌, ◌∷◌, [], map, Some, None}
use Rattle.std.proofs.lemmas.List.{map-append}
use Rattle.csv.specs.Records.{fields_of as row_fields, field_at}
use Rattle.plan_items.specs.Items.{fields_of}
use Rattle.plan_import.proofs.Taken.{more_taken, all_taken}
use Rattle.plan_import.proofs.lines.reading.own_fields.Goals as goal

pub loop-field-preserved : goal.loop-field-preserved
loop-field-preserved c =
    let row = row_fields c.args.row.now in
    let inv = c.loop-field.invariant in
    let step = rw c.in-Some.is at c.next.ensures.steps in
    let field : field_at row c.loop-field.field-iterator.at ≡ Some c.in-Some.field.now = sym (rw inv.0 at step.1) in
    let copied : c.in_ok-to_vec.field-0.items ≡ c.in-Some.field.now = search rules in
    let pushed : fields_of c.push.new.self.items ≡ fields_of c.loop-field.fields.items ++ c.in_ok-to_vec.field-0.items ∷ [] =
    ap (map _) c.in_ok-push.ensures.items ∙ map-append _ c.loop-field.fields.items (c.in_ok-to_vec.field-0 ∷ []) in
    (ap (λ r. r.now) step.0 ∙ inv.0, rw (pushed, step.2, copied, inv.1) (more_taken row _ _ field))

pub returns : goal.returns
returns c =
    let row = row_fields c.args.row.now in
    let inv = c.loop-field.invariant in
    let step = rw c.in-None.is at c.next.ensures.steps in
    let none : field_at row c.loop-field.field-iterator.at ≡ None = sym (rw inv.0 at step.1) in
    inv.1 ∙ all_taken row _ none
