use Rattle.std.proofs.Common.{refl, List, [], ℕ}
use Rattle.http_messages.specs.declared.asking.Asked.TheVariants as asked
use Rattle.http_messages.specs.declared.routes.Route.TheVariants as route
use Rattle.http_messages.specs.Heads.{request_at}
use Rattle.http_messages.specs.Routes.{path_of, IsPathOf}
use Rattle.http_messages.specs.Tests.{Request, Takes, FailsIn, AsksIn}
use Rattle.http_messages.proofs.Texts.{IfSome-each}
use Rattle.http_messages.proofs.Answered.{of_line, sent}
use Rattle.http_messages.proofs.asking.answer_of.Goals as goal

pub returns-in-Err-clause-answer : goal.returns-in-Err-clause-answer
returns-in-Err-clause-answer g c =
    let head = c.args.head.now in
    let P : List ℕ → Type 0 = λ left. FailsIn c.args.most (request_at head.bytes.now head.headers.now head.spans left) c.in-Err.test in
    IfSome-each _ P (λ left. of_line (λ q. FailsIn c.args.most q c.in-Err.test) _ _ head.bytes.now head.headers.now head.spans left c.method.ensures c.target-target.ensures (rw c.in-Err.is at (c.route_of_line.ensures c.args.most)))

pub segment_of-requires : goal.segment_of-requires
segment_of-requires g c =
    let takes : Takes (record { method = c.method.result.now; target = c.target-target.result.now; fields = []; rest = [] }) c.in-Ok.route = (rw c.in-Ok.is at (c.route_of_line.ensures c.args.most)) [] [] in
    let path : IsPathOf c.in-Ok.route (path_of c.target-target.result.now) = takes.path.1 in
    record { ready = rw c.in-Ready.is at path }

pub returns-in_ok-body_of-in-Report-clause-answer : goal.returns-in_ok-body_of-in-Report-clause-answer
returns-in_ok-body_of-in-Report-clause-answer g c =
    let head = c.args.head.now in
    let line = rw c.in-Report.is at (rw c.in-Ok.is at (c.route_of_line.ensures c.args.most)) in
    sent c.args.most _ (request_at head.bytes.now head.headers.now head.spans) route.Report (λ body. body.items) asked.Report c.in_ok-body_of-in-Report.field-0 c.map.result refl (λ q body has. has)
    (λ left. of_line (λ q. Takes q route.Report) _ _ head.bytes.now head.headers.now head.spans left c.method.ensures c.target-target.ensures line) c.map.ensures.cases (c.in_ok-body_of-in-Report.ensures.body (request_at head.bytes.now head.headers.now head.spans []).target)

pub returns-in_ok-body_of-in-Operator-clause-answer : goal.returns-in_ok-body_of-in-Operator-clause-answer
returns-in_ok-body_of-in-Operator-clause-answer g c =
    let head = c.args.head.now in
    let line = rw c.in-Operator.is at (rw c.in-Ok.is at (c.route_of_line.ensures c.args.most)) in
    sent c.args.most _ (request_at head.bytes.now head.headers.now head.spans) route.Operator (λ body. body.items) asked.Operator c.in_ok-body_of-in-Operator.field-0 c.map-in-Operator.result refl (λ q body has. has)
    (λ left. of_line (λ q. Takes q route.Operator) _ _ head.bytes.now head.headers.now head.spans left c.method.ensures c.target-target.ensures line) c.map-in-Operator.ensures.cases (c.in_ok-body_of-in-Operator.ensures.body (request_at head.bytes.now head.headers.now head.spans []).target)

pub returns-in_ok-segment_of-in-Ready-clause-answer : goal.returns-in_ok-segment_of-in-Ready-clause-answer
returns-in_ok-segment_of-in-Ready-clause-answer g c =
    let head = c.args.head.now in
    let request : List ℕ → Request = λ left. request_at head.bytes.now head.headers.now head.spans left in
    let P : List ℕ → Type 0 = λ left. AsksIn c.args.most (request left) (asked.Ready c.in_ok-segment_of-in-Ready.field-0) in
    IfSome-each _ P (λ left. (
      rw c.in-Ready.is at (of_line (λ q. Takes q c.in-Ok.route) _ _ head.bytes.now head.headers.now head.spans left c.method.ensures c.target-target.ensures (rw c.in-Ok.is at (c.route_of_line.ensures c.args.most))),
      rw c.target-target.ensures at c.in_ok-segment_of-in-Ready.ensures.segment,
    ))

pub returns-in-Occurrences-clause-answer : goal.returns-in-Occurrences-clause-answer
returns-in-Occurrences-clause-answer g c =
    let head = c.args.head.now in
    let P : List ℕ → Type 0 = λ left. Takes (request_at head.bytes.now head.headers.now head.spans left) route.Occurrences in
    IfSome-each _ P (λ left.
    rw c.in-Occurrences.is at (of_line (λ q. Takes q c.in-Ok.route) _ _ head.bytes.now head.headers.now head.spans left c.method.ensures c.target-target.ensures (rw c.in-Ok.is at (c.route_of_line.ensures c.args.most))))
