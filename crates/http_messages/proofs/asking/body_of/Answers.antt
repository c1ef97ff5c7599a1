use Rattle.std.proofs.Common.{refl, List, ℕ, ◌++◌, MatchResult}
use Rattle.std.specs.Option.{option_map}
use Rattle.http_messages.specs.Heads.{request_at, IsFront}
use Rattle.http_messages.specs.Tests.{Request, SendsBody, HasBodyIn, FailsIn}
use Rattle.http_messages.proofs.Texts.{IfSome-each, IfSome-weaker}
use Rattle.http_messages.proofs.Answered.{body_answer}
use Rattle.http_messages.proofs.asking.body_of.Goals as goal

pub returns-in-Err-clause-body : goal.returns-in-Err-clause-body
returns-in-Err-clause-body g c =
    let head = c.args.head.now in
    λ target.
    let request : List ℕ → Request = λ left. record (request_at head.bytes.now head.headers.now head.spans left) { target = target } in
    let P : List ℕ → Type 0 = λ left. SendsBody (request left) → FailsIn c.args.most (request left) c.in-Err.test in
    IfSome-each _ P (λ left sends. c.in-Err.ensures (request left) refl sends)

pub returns-clause-body : goal.returns-clause-body
returns-clause-body g c =
    let head = c.args.head.now in
    λ target.
    let request : List ℕ → Request = λ left. record (request_at head.bytes.now head.headers.now head.spans left) { target = target } in
    let P : List ℕ → Type 0 = λ left. IsFront (c.rest.result.now ++ left) c.in-Ok.length (option_map (λ body. body.items) c.in_ok-read_body.field-0) in
    let Q : List ℕ → Type 0 = λ left. SendsBody (request left) → MatchResult c.ok_or.result (λ body. HasBodyIn c.args.most (request left) body.items) (FailsIn c.args.most (request left)) in
    IfSome-weaker _ P Q (λ left front sends.
    rw c.ok_or.ensures.value
    (body_answer c.args.most (request left) c.in-Ok.length c.in_ok-read_body.field-0 (λ body. body.items)
    (c.in-Ok.ensures (request left) refl sends)
    (rw c.rest.ensures at front))) c.in_ok-read_body.ensures.body
