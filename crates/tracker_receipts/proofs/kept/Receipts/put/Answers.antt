use Rattle.std.proofs.Common.{◌∙◌, ap, arith, subst, sym, true, List}
use Rattle.std.specs.FinMap.{from_entries}
use Rattle.std.specs.List.Sorted.{IsStrictlySortedBy}
use Rattle.std.specs.Map.{keys_of}
use Rattle.plan_basics.specs.Keys.{Name, name_cmp}
use Rattle.plan_laws.specs.plan_records.specs.Receipts.{AreReceipts}
use Rattle.plan_laws.specs.plan_records.specs.Step.{Receipt}
use Rattle.tracker_receipts.proofs.Keeping.{inserted_is, inserted_up, no_receipt_of, one_more_legal, room_for_new, row_count, set_in_order, set_is}
use Rattle.tracker_receipts.proofs.kept.Receipts.put.Goals as goal

pub invariant_of-self : goal.invariant_of-self
invariant_of-self c =
    let ds = c.deref.result.now in
    let rows = c.self.inside.rows.items in
    let made = set_is ds rows c.deref.ensures.value c.args.self.now c.self.view_is c.self.invariant.in_order c.args.tracker.now c.in-Ok.place c.in-Ok.ensures.bound c.in-Ok.ensures.position c.args.receipt in
    record {
      in_order = set_in_order ds rows c.deref.ensures.value c.args.self.now c.self.view_is c.self.invariant.in_order c.args.tracker.now c.in-Ok.place c.in-Ok.ensures.bound c.in-Ok.ensures.position c.args.receipt;
      legal = subst (AreReceipts true) (sym made) (one_more_legal c.args.self.now c.args.tracker.now c.args.receipt (subst (AreReceipts true) c.self.view_is c.self.invariant.legal) c.requires.legal c.requires.room);
      room = c.self.invariant.room;
    }

pub returns-in-Ok : goal.returns-in-Ok
returns-in-Ok c =
    set_is c.deref.result.now c.self.inside.rows.items c.deref.ensures.value c.args.self.now c.self.view_is c.self.invariant.in_order c.args.tracker.now c.in-Ok.place c.in-Ok.ensures.bound c.in-Ok.ensures.position c.args.receipt

pub unwrap-requires : goal.unwrap-requires
unwrap-requires c =
    let ds = c.deref.result.now in
    let rows = c.self.inside.rows in
    let T = c.args.self.now in
    let missed = no_receipt_of ds rows.items c.deref.ensures.value T c.self.view_is c.self.invariant.in_order c.args.tracker.now c.in-Err.place c.in-Err.ensures.bound c.in-Err.ensures.position in
    c.insert.ensures.succeeds (omega (arith, room_for_new T c.args.tracker.now c.requires.room missed, row_count ds rows.items c.deref.ensures.value T c.self.view_is c.self.invariant.in_order c.args.tracker.now, rows.ok.0, c.self.invariant.room))

pub invariant_of-self-in-Err : goal.invariant_of-self-in-Err
invariant_of-self-in-Err c =
    let ds = c.deref.result.now in
    let rows = c.self.inside.rows.items in
    let items = rw c.unwrap.ensures at c.insert.ensures.items in
    let made = inserted_is ds rows c.deref.ensures.value c.args.self.now c.self.view_is c.self.invariant.in_order c.args.tracker.now c.in-Err.place c.in-Err.ensures.bound c.in-Err.ensures.position c.args.receipt in
    record {
      in_order = subst (λ (rs : List (Name × Receipt)). IsStrictlySortedBy name_cmp (keys_of rs)) (sym items)
          (inserted_up ds rows c.deref.ensures.value c.args.self.now c.self.view_is c.self.invariant.in_order c.args.tracker.now c.in-Err.place c.in-Err.ensures.bound c.in-Err.ensures.position c.args.receipt);
      legal = subst (AreReceipts true) (sym (ap (from_entries {R = name_cmp}) items ∙ made))
          (one_more_legal c.args.self.now c.args.tracker.now c.args.receipt (subst (AreReceipts true) c.self.view_is c.self.invariant.legal) c.requires.legal c.requires.room);
      room = omega (arith, c.insert.ensures.capacity, c.self.invariant.room);
    }

pub returns-in-Err : goal.returns-in-Err
returns-in-Err c =
    ap (from_entries {R = name_cmp}) (rw c.unwrap.ensures at c.insert.ensures.items)
    ∙ inserted_is c.deref.result.now c.self.inside.rows.items c.deref.ensures.value c.args.self.now c.self.view_is c.self.invariant.in_order c.args.tracker.now c.in-Err.place c.in-Err.ensures.bound c.in-Err.ensures.position c.args.receipt
