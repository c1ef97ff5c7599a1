use Rattle.std.proofs.Common.{◌≡◌, ◌<◌, ◌++◌, List, ℕ, is_ok, cond, Result, Ok, Err, OnOk, length, sym, arith, ◌∙◌, ap}
use Rattle.std.specs.String.{string_bytes}
use Rattle.std.proofs.lemmas.Bool.{eqb-true, eqb-false}
use Rattle.tracker_receipts.proofs.Joining.{first_pushed, next_pushed}
use Rattle.tracker_receipts.proofs.replies.push_key.Goals as goal

-- what is so of the text of an Ok
on_ok : {E : Type 0} {P : Type 0} (r : Result (Unit {0}) E) (new pushed old : List ℕ) → new ≡ cond (is_ok r) pushed old → (new ≡ pushed → P) → OnOk r P
on_ok (Ok x) new pushed old e then = then e
on_ok (Err f) new pushed old e then = tt

pub returns-then-is_empty : goal.returns-then-is_empty
returns-then-is_empty c =
    let old = c.args.text.now in
    let shown = c.in_ok-shown.ensures.ok in
    let none : length (string_bytes old) ≡ 0 = sym old.bytes.ok.0 ∙ eqb-true _ 0 (sym c.is_empty.ensures ∙ c.if-is_empty.true) in
    on_ok c.push_str.result (string_bytes c.push_str.new.self) (string_bytes old ++ c.deref.result.now) (string_bytes old) c.push_str.ensures.bytes (λ e keys was.
    first_pushed keys c.args.key.now (string_bytes old) (string_bytes c.push_str.new.self) none (e ∙ ap (λ t. string_bytes old ++ t) (c.deref.ensures ∙ shown)) was)

pub returns : goal.returns
returns c =
    let old = c.args.text.now in
    let shown = c.in_ok-shown.ensures.ok in
    let mid = c.push_str-else-is_empty.new.self in
    let blank = rw c.in_ok-push_str.was at c.push_str-else-is_empty.ensures.bytes in
    let new = c.push_str-else-is_empty-2.new.self in
    let apart = eqb-false old.bytes.len 0 (sym c.is_empty.ensures ∙ c.if-is_empty.false) in
    let some : 0 < length (string_bytes old) = omega (arith, apart, old.bytes.ok.0) in
    on_ok c.push_str-else-is_empty-2.result (string_bytes new) (string_bytes mid ++ c.deref-else-is_empty.result.now) (string_bytes mid) c.push_str-else-is_empty-2.ensures.bytes (λ e keys was.
    next_pushed keys c.args.key.now (string_bytes old) (string_bytes mid) (string_bytes new) some blank (e ∙ ap (λ t. string_bytes mid ++ t) (c.deref-else-is_empty.ensures ∙ shown)) was)
