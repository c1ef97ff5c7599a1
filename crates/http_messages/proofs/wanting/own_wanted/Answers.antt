use Rattle.std.proofs.Common.{inl, inr, List, ℕ, IfSome, option_map, string_bytes}
use Rattle.std.proofs.lemmas.Result.{IfOk-weaker}
use Rattle.plan_basics.specs.Watched.{inner_of}
use Rattle.http_messages.specs.Heads.{request_at}
use Rattle.http_messages.specs.Looks.{ComesToJudged, ComesToOther, ComesToOwn}
use Rattle.http_messages.specs.Tests.{Request}
use Rattle.http_messages.proofs.Guarded.{no}
use Rattle.http_messages.proofs.Texts.{IfSome-weaker}
use Rattle.http_messages.proofs.wanting.own_wanted.Goals as goal

pub returns-then-is_judging-clause-answer : goal.returns-then-is_judging-clause-answer
returns-then-is_judging-clause-answer g c =
    let head = c.args.head.now in
    let known = g.R.Read.remaining (inner_of c.args.reader.now) in
    let request : List ℕ → Request = λ left. request_at head.bytes.now head.headers.now head.spans left in
    let by = option_map string_bytes c.args.by in
    IfOk-weaker c.judged_wanted.result (λ answer. IfSome known (λ left. ComesToJudged c.args.most (request left) answer)) (λ answer. IfSome known (λ left. ComesToOwn c.args.most (request left) by answer))
    (λ answer judged. IfSome-weaker known (λ left. ComesToJudged c.args.most (request left) answer) (λ left. ComesToOwn c.args.most (request left) by answer)
    (λ left comes. inl (c.is_judging.ensures.0 c.if-is_judging.true, comes)) judged) c.judged_wanted.ensures.answer

pub returns-else-is_judging-clause-answer : goal.returns-else-is_judging-clause-answer
returns-else-is_judging-clause-answer g c =
    let head = c.args.head.now in
    let known = g.R.Read.remaining (inner_of c.args.reader.now) in
    let request : List ℕ → Request = λ left. request_at head.bytes.now head.headers.now head.spans left in
    let by = option_map string_bytes c.args.by in
    IfOk-weaker c.other_wanted.result (λ answer. IfSome known (λ left. ComesToOther c.args.most (request left) by answer)) (λ answer. IfSome known (λ left. ComesToOwn c.args.most (request left) by answer))
    (λ answer other. IfSome-weaker known (λ left. ComesToOther c.args.most (request left) by answer) (λ left. ComesToOwn c.args.most (request left) by answer)
    (λ left comes. inr (no c.is_judging.result c.is_judging.ensures c.if-is_judging.false, comes)) other) c.other_wanted.ensures.answer
