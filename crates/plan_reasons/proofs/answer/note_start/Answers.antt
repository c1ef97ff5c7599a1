use Rattle.std.proofs.Common.{◌≡◌, sym, subst, ◌∙◌, true, rules, Some}
use Rattle.std.specs.FinMap.{get}
use Rattle.plan_basics.specs.declared.keys.OpKey.{OpKey}
use Rattle.plan_core.specs.start_choice.specs.Choices.{AreHeldIn}
use Rattle.plan_model.specs.Contents.{Contents}
use Rattle.plan_model.specs.Holdings.{given_out}
use Rattle.plan_reasons.specs.Parts.{AreOfKind}
use Rattle.plan_reasons.specs.Reasons.{needs_start}
use Rattle.plan_reasons.proofs.Collecting.{more_of_kind, more_of_list}
use Rattle.plan_reasons.proofs.answer.note_start.Goals as goal

pub given_out_at-taken-requires : goal.given_out_at-taken-requires
given_out_at-taken-requires c =
    let op = c.args.reported.now.operation.now in
    subst (λ (Q : Contents). (o : OpKey) × (get Q.operations o ≡ Some op)) (sym c.outline-outline.ensures) (c.args.key.now, c.requires.operation)

pub workstation_of-workstation-requires : goal.workstation_of-workstation-requires
workstation_of-workstation-requires c =
    let op = c.args.reported.now.operation.now in
    subst (λ (Q : Contents). (o : OpKey) × (get Q.operations o ≡ Some op)) (sym c.contents-contents.ensures.contents) (c.args.key.now, c.requires.operation)

pub all_scarce-requires : goal.all_scarce-requires
all_scarce-requires c = subst (λ (Q : Contents). AreHeldIn Q c.holdings-holdings.result.now.held) (c.outline-outline.ensures ∙ sym c.contents-contents.ensures.contents) c.holdings-holdings.ensures

pub returns-clause-noted : goal.returns-clause-noted
returns-clause-noted c before =
    let P = c.args.loaded.now in
    let o = c.args.key.now in
    let op = c.args.reported.now.operation.now in
    let m = c.args.at in
    let same = c.contents-contents.ensures.contents in
    let start : needs_start P op ≡ true = sym (c.needs_start.ensures P o c.requires) ∙ search rules in
    let started = subst (λ (Q : Contents). needs_start Q op ≡ true) (sym same) start in
    let name = c.workstation_of-workstation.ensures.name in
    let known = subst (λ (Q : Contents). get Q.workstations op.workstation ≡ Some c.workstation_of-workstation.result.now.1) same c.workstation_of-workstation.ensures.known in
    let given = sym (subst (λ (Q : Contents). given_out Q op.workstation ≡ c.given_out_at-taken.result) c.outline-outline.ensures c.given_out_at-taken.ensures) in
    let held = subst (λ (Q : Contents). AreHeldIn Q c.holdings-holdings.result.now.held) c.outline-outline.ensures c.holdings-holdings.ensures in
    let unavailable = subst (λ (Q : Contents). AreOfKind Q o op m 8 c.in_ok-all_unavailable.field-0.items) same (c.in_ok-all_unavailable.ensures o m started) in
    let scarce = subst (λ (Q : Contents). AreOfKind Q o op m 10 c.in_ok-all_scarce.field-0.items) same (c.in_ok-all_scarce.ensures m started) in
    let r3 = more_of_kind P o op m 3 c.args.reasons.now.items c.note.new.items.items c.too_early.result c.in_ok-note.ensures (c.too_early.ensures P o start) before in
    let r4 = more_of_kind P o op m 4 c.note.new.items.items c.note-2.new.items.items c.closed.result c.in_ok-note-2.ensures (c.closed.ensures P o op start name known) r3 in
    let r5 = more_of_kind P o op m 5 c.note-2.new.items.items c.note-3.new.items.items c.lacks.result c.in_ok-note-3.ensures (c.lacks.ensures P o start name known given) r4 in
    let r6 = more_of_kind P o op m 6 c.note-3.new.items.items c.note-4.new.items.items c.lacks-2.result c.in_ok-note-4.ensures (c.lacks-2.ensures P o start name known given) r5 in
    let r7 = more_of_kind P o op m 7 c.note-4.new.items.items c.note-5.new.items.items c.lacks-3.result c.in_ok-note-5.ensures (c.lacks-3.ensures P o start name known given) r6 in
    let r8 = more_of_list P o op m 8 c.note-5.new.items.items c.note_all.new.items.items c.in_ok-all_unavailable.field-0.items c.in_ok-note_all.ensures unavailable r7 in
    let r9 = more_of_list P o op m 9 c.note_all.new.items.items c.note_all-2.new.items.items c.in_ok-all_held.field-0.items c.in_ok-note_all-2.ensures (c.in_ok-all_held.ensures P m start held) r8 in
    more_of_list P o op m 10 c.note_all-2.new.items.items c.note_all-3.new.items.items c.in_ok-all_scarce.field-0.items c.in_ok-note_all-3.ensures scarce r9
