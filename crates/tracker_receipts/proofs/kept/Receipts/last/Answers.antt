use Rattle.tracker_receipts.proofs.Keeping.{no_receipt_of, receipt_read}
use Rattle.tracker_receipts.proofs.kept.Receipts.last.Goals as goal

pub returns-in-Ok-clause-found : goal.returns-in-Ok-clause-found
returns-in-Ok-clause-found c =
    receipt_read c.deref.result.now c.self.inside.rows.items c.deref.ensures.value c.args.self.now c.self.view_is c.self.invariant.in_order c.args.tracker.now c.in-Ok.place c.in-Ok.ensures.bound c.in-Ok.ensures.position
    c.index.result.now c.index.ensures

pub returns-in-Err-clause-absent : goal.returns-in-Err-clause-absent
returns-in-Err-clause-absent c = λ none.
    no_receipt_of c.deref.result.now c.self.inside.rows.items c.deref.ensures.value c.args.self.now c.self.view_is c.self.invariant.in_order c.args.tracker.now c.in-Err.field-0 c.in-Err.ensures.bound c.in-Err.ensures.position
