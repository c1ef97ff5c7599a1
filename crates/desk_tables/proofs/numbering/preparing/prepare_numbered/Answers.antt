use Rattle.std.proofs.Common.{rules, ◌≡◌, ◌⊎◌, ◌+◌, inl, inr, refl, sym, ap, subst, ◌∙◌, true≢false}
use Rattle.std.specs.FinMap.{get}
use Rattle.plan_basics.specs.declared.Refusal.TheVariants as refusal
use Rattle.plan_core.specs.State.{FitsPlan, PlanState}
use Rattle.plan_records.specs.Answer.{refused}
use Rattle.plan_records.specs.Step.{HasReceiptRoom, Numbered, NumberedStep, last_number}
use Rattle.tracker_receipts.specs.Judging.{numbered_by}
use Rattle.desk_tables.proofs.PreparedSteps.{step_is}
use Rattle.desk_tables.proofs.Rooms.{refused_anew, refused_with_room}
use Rattle.desk_tables.proofs.numbering.preparing.prepare_numbered.Goals as goal
use Rattle.desk_tables.specs.Steps.{receipt_of}
use Rattle.desk_tables.specs.declared.numbering.steps.NumberedStep.{NumberedStep as Prepared}

pub returns-then-not-has_room-clause-refused : goal.returns-then-not-has_room-clause-refused
returns-then-not-has_room-clause-refused c =
    let q = c.args.request.now in
    let n : Numbered = numbered_by c.args.tracker.now c.args.number c.args.text.now q in
    let next : n.number ≡ last_number (get c.args.receipts.now n.tracker) + 1 = (rw c.in-New.is at c.judge.ensures.new).0 tt in
    let full : ¬ HasReceiptRoom c.args.receipts.now n = λ room. true≢false (sym ((c.if-not-has_room.ensures q).1 room)) in
    elim c.refused_without_room.ensures.least [
      | inl memory ↦ inl memory
      | inr least ↦ inr (refused_anew c.args.plan.now.plan c.args.receipts.now n c.refused_without_room.result next (record { least = least c.args.receipts.now n refl full; is_after = refl }))
    ]

pub returns-in_err-prepared-clause-refused : goal.returns-in_err-prepared-clause-refused
returns-in_err-prepared-clause-refused c =
    let P = c.args.plan.now.plan in
    let T = c.args.receipts.now in
    let q = c.args.request.now in
    let n : Numbered = numbered_by c.args.tracker.now c.args.number c.args.text.now q in
    let room : HasReceiptRoom T n = (c.if-not-has_room.ensures q).0 refl in
    let next : n.number ≡ last_number (get T n.tracker) + 1 = (rw c.in-New.is at c.judge.ensures.new).0 tt in
    let r = c.in_err-prepared.field-0.0 in
    let told : (r ≡ refusal.Memory) ⊎ NumberedStep P T n (refused r) P T =
    elim c.in_err-prepared.ensures.refused [ inl memory ↦ inl memory | inr step ↦ inr (refused_anew P T n r next (refused_with_room P T n room r step)) ] in
    search rules

pub kept-requires : goal.kept-requires
kept-requires c = ((c.if-not-has_room.ensures c.args.request.now).0 refl).2

pub returns-clause-new : goal.returns-clause-new
returns-clause-new c =
    let q = c.args.request.now in
    let n : Numbered = numbered_by c.args.tracker.now c.args.number c.args.text.now q in
    let p : Prepared = record { tracker = c.args.tracker.now; prepared = c.in_ok-prepared.prepared; receipt = c.in_ok-receipt.receipt; row = c.in_ok-receipt.row } in
    step_is c.args.plan.now c.args.receipts.now n p c.read_for_proof.ensures.sound (c.read_for_proof.ensures.legal c.args.number q) ((rw c.in-New.is at c.judge.ensures.new).0 tt) ((c.if-not-has_room.ensures q).0 refl)
    c.in_ok-prepared.ensures.step c.in_ok-prepared.ensures.changes (subst (λ (s : PlanState). FitsPlan s c.in_ok-prepared.prepared) c.in_ok-prepared.ensures.unchanged c.in_ok-prepared.ensures.prepared.by.fits) refl (c.in_ok-receipt.ensures.receipt ∙ ap (receipt_of n) c.named.ensures) c.in_ok-receipt.ensures.row
