use Rattle.std.proofs.Common.{rules, ◌≡◌, ◌∙◌, sym, arith, ◌<◌, length, Some, None}
use Rattle.std.proofs.lemmas.List.{length-set}
use Rattle.csv.specs.Records.{fields_of as row_fields, field_at}
use Rattle.csv.proofs.RecordFacts.{field-get, field-there}
use Rattle.plan_import.proofs.Fields.{put_more}
use Rattle.plan_import.proofs.refill.Goals.{in-Some+in_ok-put, in_default}
use Rattle.plan_import.proofs.refill.Goals as goal

pub loop-i-preserved : goal.loop-i-preserved
loop-i-preserved c =
    let row = row_fields c.args.row.now in
    let i = c.loop-i.i in
    let h = c.loop-i.invariant in
    let within : i < length row = omega (arith, c.loop-i-test.true, c.len-i-end.ensures, c.requires) in
    elim c.match-get.branch [
      | in-Some+in_ok-put w ↦
          let field : field_at row i ≡ Some w.in-Some.text.now = sym (rw w.in-Some.is at c.get.ensures.value) in
          let at = sym (field-get row i _ field) in
          rw (w.fields-is) (
            length-set c.loop-i.fields.items i w.put.new.field ∙ h.0,
            put_more c.loop-i.fields.items row i w.put.new.field within h.0 h.1 (w.in_ok-put.ensures ∙ at),
          )
      | in_default w ↦
          let none : field_at row i ≡ None = search rules in
          absurd (field-there row i within none)
    ]
