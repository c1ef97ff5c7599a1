use Rattle.std.proofs.Common.{◌≡◌, sym, subst, ◌∙◌, Some, slice_get}
use Rattle.std.specs.FinMap.{entries}
use Rattle.std.proofs.lemmas.Option.{same_Some}
use Rattle.plan_model.specs.Contents.{Operation}
use Rattle.plan_core.specs.plan_status.proofs.LoadedRows.{row_found}
use Rattle.plan_reasons.specs.Parts.{AreBefore}
use Rattle.plan_reasons.proofs.Collecting.{all_found, more_of_kind, more_of_list, none_before}
use Rattle.plan_reasons.proofs.answer.reasons_at.Goals as goal

pub note_start-requires : goal.note_start-requires
note_start-requires c = c.reported_at-reported.ensures c.args.key.now c.requires.0 c.requires.1

pub returns-clause-reasons : goal.returns-clause-reasons
returns-clause-reasons c =
    let P = c.args.loaded.now in
    let o = c.args.key.now in
    let m = c.args.at in
    let reported = c.reported_at-reported.ensures o c.requires.0 c.requires.1 in
    let op = c.reported_at-reported.result.operation.now in
    let same = same_Some c.requires.0 op (sym (row_found P c.args.place o c.requires.0 c.requires.1) ∙ reported.operation) in
    let at = subst (λ (x : Operation). slice_get (entries P.operations) c.args.place ≡ Some (o, x)) same c.requires.1 in
    let none = subst (AreBefore P o op m 0) (sym c.new-reasons.ensures.items) (none_before P o op m) in
    let rest = more_of_kind P o op m 0 c.new-reasons.result.items c.note.new.items.items c.at_rest.result c.in_ok-note.ensures (c.at_rest.ensures P c.read_for_proof.ensures.valid o m reported) none in
    let waiting = more_of_list P o op m 1 c.note.new.items.items c.note_all.new.items.items c.in_ok-waits.field-0.items c.in_ok-note_all.ensures (c.in_ok-waits.ensures.reasons o op m at) rest in
    let held = more_of_kind P o op m 2 c.note_all.new.items.items c.note-2.new.items.items c.held.result c.in_ok-note-2.ensures (c.held.ensures P o m) waiting in
    all_found P o op m c.note_start.new.reasons.items reported.operation (c.in_ok-note_start.ensures.noted held)
