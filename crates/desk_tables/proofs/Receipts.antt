-- The receipt that an accepted request becomes is well formed.
use Rattle.std.proofs.Common.{◌≡◌, refl, sym, ap, ◌∙◌, arith, inr, ◌+◌, cond, List, Some}
use Rattle.std.specs.Cmp.{eq_by_cmp_equiv}
use Rattle.std.specs.FinMap.{get, get-empty, get-insert, insert, len-empty}
use Rattle.std.specs.FinMap as map
use Rattle.plan_basics.specs.Keys.{name_cmp, name_cmp_total}
use Rattle.plan_basics.specs.declared.keys.OpKey.{OpKey}
use Rattle.tracker_receipts.specs.plan_laws.proofs.Receipts.{answer_keeps_receipts, empty_is_desk_state}
use Rattle.plan_model.specs.Plan.{Plan, IsSoundPlan}
use Rattle.plan_records.specs.Answer.{accepted}
use Rattle.plan_records.specs.Receipts.{IsReceipt}
use Rattle.plan_records.specs.Run.{State, numbered, usable}
use Rattle.plan_records.specs.Schedules.{IsDeskState}
use Rattle.plan_records.specs.Step.{HasReceiptRoom, IsNumbered, Numbered, Receipt, Receipts, Step, last_number}
use Rattle.desk_tables.specs.Steps.{receipt_of}
use Rattle.desk_tables.proofs.Rooms.{accepted_with_room}

module _ (P after : Plan) (os : List OpKey) (sound : IsSoundPlan P) where
  -- a tracker's first receipt is well formed, where no other has one
  first_receipt : (n : Numbered) → IsNumbered n → n.number ≡ 1 → HasReceiptRoom map.empty n → Step P n.request (accepted os) after → IsReceipt n.tracker (receipt_of n os)
  first_receipt n legal first room step =
      let before : State = record { plan = P; receipts = map.empty } in
      let then : State = record { plan = after; receipts = insert map.empty n.tracker (receipt_of n os) } in
      let next : n.number ≡ last_number (get {R = name_cmp} map.empty n.tracker) + 1 = first ∙ ap (λ last. last_number last + 1) (sym (get-empty name_cmp n.tracker)) in
      let kept : IsDeskState then =
      answer_keeps_receipts before then usable usable (numbered n) (accepted os)
      (sound, record { each = empty_is_desk_state.1.each; few = empty_is_desk_state.1.few; before_load = λ none. refl })
      (inr (next, λ chosen is. legal, accepted_with_room P map.empty n room os after step, refl), refl) in
      kept.1.each n.tracker (receipt_of n os)
      (get-insert name_cmp_total map.empty n.tracker (receipt_of n os) n.tracker ∙ ap (λ b. cond b (Some (receipt_of n os)) (get {R = name_cmp} map.empty n.tracker)) ((eq_by_cmp_equiv name_cmp_total).refl n.tracker))

  -- so is each, since its keys are those that its first would have
  pub its_receipt : (T : Receipts) (n : Numbered) → IsNumbered n → n.number ≡ last_number (get T n.tracker) + 1 → HasReceiptRoom T n → Step P n.request (accepted os) after → IsReceipt n.tracker (receipt_of n os)
  its_receipt T n legal next room step =
      let first : Numbered = record { tracker = n.tracker; number = 1; text = n.text; request = n.request } in
      record {
        tracker_name = legal.0;
        number = (omega (arith, next), room.2);
        text = (room.1, legal.1);
        named = (first_receipt first legal refl (inr (rw (len-empty name_cmp Receipt) (omega arith)), room.1, omega arith) step).named;
      }
