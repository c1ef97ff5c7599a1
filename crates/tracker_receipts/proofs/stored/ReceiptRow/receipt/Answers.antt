use Rattle.std.proofs.Common.{◌≡◌, ◌∙◌, ◌<◌, FitsSigned, List, ℕ, ap, arith, length, of_z, rules, subst, sym, to_z, w64}
use Rattle.std.proofs.lemmas.Int.{ints}
use Rattle.plan_basics.specs.declared.limits.TheConstants.{LONGEST_REQUEST_TEXT}
use Rattle.plan_laws.specs.plan_records.specs.Step.{Receipt}
use Rattle.tracker_receipts.specs.Replies.{Joins}
use Rattle.tracker_receipts.specs.Stored.{IsRequestText, IsRowOf}
use Rattle.tracker_receipts.proofs.Listing.{columns_are, long_text, no_keys, no_number}
use Rattle.tracker_receipts.proofs.stored.ReceiptRow.receipt.Goals as goal

pub returns-in_default : goal.returns-in_default
returns-in_default c =
    let number = c.self.inside.number in
    let fits : FitsSigned w64 number = search rules in
    let same : to_z w64 (of_z w64 number) ≡ number = omega (arith, ints, fits) in
    no_number c.args.self.now (λ n h. (rw c.in_default.is at c.number_of.ensures) n (h.0, h.1, same ∙ ap (λ row. row.number) c.self.view_is ∙ h.2))

pub returns-in_default-2 : goal.returns-in_default-2
returns-in_default-2 c =
    long_text c.args.self.now (subst (λ (t : List ℕ). LONGEST_REQUEST_TEXT < length t) (c.deref.ensures.value ∙ ap (λ row. row.text) c.self.view_is) (rw c.in_default-2.is at c.in_ok-text.ensures))

pub returns-in_default-3 : goal.returns-in_default-3
returns-in_default-3 c =
    no_keys c.args.self.now (λ keys joins. (rw c.in_default-3.is at c.in_ok-named.ensures) keys (subst (λ t. Joins t keys) (sym (c.deref-2.ensures.value ∙ ap (λ row. row.reply) c.self.view_is)) joins))

pub returns : goal.returns
returns c =
    let row = c.args.self.now in
    let number = c.in-Some.ensures in
    let fits : FitsSigned w64 c.self.inside.number = search rules in
    let same : to_z w64 (of_z w64 c.self.inside.number) ≡ c.self.inside.number = omega (arith, ints, fits) in
    let text = rw c.in-Some-2.is at c.in_ok-text.ensures in
    let named = rw c.in-Some-3.is at c.in_ok-named.ensures in
    let made : Receipt = record { number = c.in-Some.number; text = c.in-Some-2.text.items; named = c.in-Some-3.named.items } in
    subst (IsRowOf row) (sym c.new.ensures) (
      record {
        tracker_name = c.requires;
        number = (number.0, number.1);
        text = subst IsRequestText (sym text.1) text.0;
        named = named.0;
      },
      columns_are row made
          (sym (same ∙ ap (λ r. r.number) c.self.view_is) ∙ number.2)
          (sym (text.1 ∙ c.deref.ensures.value ∙ ap (λ r. r.text) c.self.view_is))
          (subst (λ t. Joins t c.in-Some-3.named.items) (c.deref-2.ensures.value ∙ ap (λ r. r.reply) c.self.view_is) named),
    )
