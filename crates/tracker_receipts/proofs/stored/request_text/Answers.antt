use Rattle.std.proofs.Common.{◌<◌, ℕ, arith, get_or, subst}
use Rattle.std.proofs.lemmas.List.{get_or_default}
use Rattle.tracker_receipts.proofs.stored.request_text.Goals as goal

pub returns : goal.returns
returns c =
    let text = c.args.text.now in
    let bytes : (k : ℕ) → get_or text k 0 < 256 = λ k. omega (arith, c.type_inv.text k) in
    ((omega arith, λ k d lt. subst (λ (b : ℕ). b < 256) (get_or_default text k 0 d lt) (bytes k)), c.in_ok-from_slice.ensures.items)
