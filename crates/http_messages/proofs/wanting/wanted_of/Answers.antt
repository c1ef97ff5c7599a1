use Rattle.std.proofs.Common.{refl, inl, inr, List, ℕ, Err, IfSome, option_map, string_bytes}
use Rattle.std.proofs.lemmas.Result.{IfOk-weaker}
use Rattle.plan_basics.specs.Watched.{inner_of}
use Rattle.http_messages.specs.declared.asking.Rejection.{Rejection}
use Rattle.http_messages.specs.declared.asking.Rejection.TheVariants as test
use Rattle.http_messages.specs.Heads.{request_at}
use Rattle.http_messages.specs.Looks.{ComesToOwn, ComesToWanted}
use Rattle.http_messages.specs.Requesters.{IsBy}
use Rattle.http_messages.specs.Tests.{Request}
use Rattle.http_messages.proofs.Guarded.{no}
use Rattle.http_messages.proofs.Texts.{IfSome-each, IfSome-weaker}
use Rattle.http_messages.proofs.wanting.wanted_of.Goals as goal

pub returns-then-is_foreign-clause-answer : goal.returns-then-is_foreign-clause-answer
returns-then-is_foreign-clause-answer g c =
    let head = c.args.head.now in
    let request : List ℕ → Request = λ left. request_at head.bytes.now head.headers.now head.spans left in
    let P : List ℕ → Type 0 = λ left. ComesToWanted c.args.most (request left) (Err test.Foreign) in
    IfSome-each _ P (λ left. inl ((c.is_foreign.ensures (request left) refl refl).0 c.if-is_foreign.true, refl))

pub returns-in-Ok-clause-answer : goal.returns-in-Ok-clause-answer
returns-in-Ok-clause-answer g c =
    let head = c.args.head.now in
    let known = g.R.Read.remaining (inner_of c.args.reader.now) in
    let request : List ℕ → Request = λ left. request_at head.bytes.now head.headers.now head.spans left in
    let by = option_map string_bytes c.in-Ok.by in
    let named : (left : List ℕ) → IsBy (request left) by = λ left. rw c.in-Ok.is at (c.in_ok-by.ensures (request left) refl refl) in
    IfOk-weaker c.own_wanted.result (λ answer. IfSome known (λ left. ComesToOwn c.args.most (request left) by answer)) (λ answer. IfSome known (λ left. ComesToWanted c.args.most (request left) answer))
    (λ answer owned. IfSome-weaker known (λ left. ComesToOwn c.args.most (request left) by answer) (λ left. ComesToWanted c.args.most (request left) answer)
    (λ left comes. inr (inr (no c.is_foreign.result (c.is_foreign.ensures (request left) refl refl) c.if-is_foreign.false, by, named left, comes))) owned) c.own_wanted.ensures.answer

pub returns-in-Err-clause-answer : goal.returns-in-Err-clause-answer
returns-in-Err-clause-answer g c =
    let head = c.args.head.now in
    let request : List ℕ → Request = λ left. request_at head.bytes.now head.headers.now head.spans left in
    let P : List ℕ → Type 0 = λ left. ComesToWanted c.args.most (request left) (Err c.in-Err.test) in
    IfSome-each _ P (λ left.
    let told = rw c.in-Err.is at (c.in_ok-by.ensures (request left) refl refl) in
    inr (inl (no c.is_foreign.result (c.is_foreign.ensures (request left) refl refl) c.if-is_foreign.false, told.1, rw told.0 refl)))
