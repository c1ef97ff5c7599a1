use Rattle.std.proofs.Common.{◌∙◌, ap}
use Rattle.tracker_receipts.proofs.Listing.{tracker_told}
use Rattle.tracker_receipts.proofs.stored.ReceiptRow.tracker.Goals as goal

pub returns : goal.returns
returns c = tracker_told c.from_text.result c.deref.result.now c.args.self.now.tracker (c.deref.ensures.value ∙ ap (λ row. row.tracker) c.self.view_is) c.from_text.ensures.some c.from_text.ensures.value
