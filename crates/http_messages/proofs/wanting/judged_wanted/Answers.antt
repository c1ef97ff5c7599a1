use Rattle.std.proofs.Common.{◌≡◌, ◌≢◌, rules, tests, codes, List, ℕ}
use Rattle.plan_basics.specs.Watched.{inner_of}
use Rattle.httparse.specs.Spans.{span_bytes}
use Rattle.http_messages.specs.declared.asking.Rejection.TheVariants as test
use Rattle.http_messages.specs.declared.statuses.Method.TheVariants as method
use Rattle.http_messages.specs.Heads.{request_at}
use Rattle.http_messages.specs.Looks.{as_operator}
use Rattle.http_messages.specs.Statuses.{method_text}
use Rattle.http_messages.specs.Tests.{FailsIn, HasBodyIn, Request, SendsBody}
use Rattle.http_messages.proofs.Judging.{other_method, sends}
use Rattle.http_messages.proofs.Texts.{IfSome-each, IfSome-weaker}
use Rattle.http_messages.proofs.wanting.judged_wanted.Goals as goal

pub returns-then-ne-clause-answer : goal.returns-then-ne-clause-answer
returns-then-ne-clause-answer g c =
    let head = c.args.head.now in
    let request : List ℕ → Request = λ left. request_at head.bytes.now head.headers.now head.spans left in
    let other : span_bytes head.bytes.now head.spans.method ≢ method_text method.Post = search (rules, tests) in
    let P : List ℕ → Type 0 = λ left. FailsIn c.args.most (as_operator (request left)) (test.OtherMethod method.Post) in
    IfSome-each _ P (λ left. other_method c.args.most (request left) other)

pub returns-in-Ok-clause-answer : goal.returns-in-Ok-clause-answer
returns-in-Ok-clause-answer g c =
    let head = c.args.head.now in
    let known = g.R.Read.remaining (inner_of c.args.reader.now) in
    let request : List ℕ → Request = λ left. request_at head.bytes.now head.headers.now head.spans left in
    let posts : span_bytes head.bytes.now head.spans.method ≡ method_text method.Post = search (rules, tests) in
    let Q : List ℕ → Type 0 = λ left. HasBodyIn c.args.most (as_operator (request left)) c.in-Ok.text.items in
    let P : List ℕ → Type 0 = λ left. SendsBody (as_operator (request left)) → Q left in
    IfSome-weaker known P Q (λ left has. has (sends (request left) posts)) (rw c.in-Ok.is at (c.in_ok-text.ensures.body (codes "/operator")))

pub returns-in-Err-clause-answer : goal.returns-in-Err-clause-answer
returns-in-Err-clause-answer g c =
    let head = c.args.head.now in
    let known = g.R.Read.remaining (inner_of c.args.reader.now) in
    let request : List ℕ → Request = λ left. request_at head.bytes.now head.headers.now head.spans left in
    let posts : span_bytes head.bytes.now head.spans.method ≡ method_text method.Post = search (rules, tests) in
    let Q : List ℕ → Type 0 = λ left. FailsIn c.args.most (as_operator (request left)) c.in-Err.test in
    let P : List ℕ → Type 0 = λ left. SendsBody (as_operator (request left)) → Q left in
    IfSome-weaker known P Q (λ left fails. fails (sends (request left) posts)) (rw c.in-Err.is at (c.in_ok-text.ensures.body (codes "/operator")))
