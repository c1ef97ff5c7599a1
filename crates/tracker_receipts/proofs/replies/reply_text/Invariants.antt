use Rattle.std.proofs.Common.{◌≡◌, take}
use Rattle.std.specs.String.{string_bytes}
use Rattle.tracker_receipts.specs.Replies.{joined}
use Rattle.tracker_receipts.proofs.replies.reply_text.Given as goal

abbrev pub invariant-loop-key : goal.invariant-loop-key
invariant-loop-key l = string_bytes l.text ≡ joined (take l.key-index l.named)
