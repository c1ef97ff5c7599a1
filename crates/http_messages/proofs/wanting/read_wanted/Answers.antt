use Rattle.std.proofs.Common.{◌≡◌, ◌≤◌, arith, length, take, Some}
use Rattle.std.proofs.lemmas.List.{length-take-le}
use Rattle.plan_basics.specs.Watched.{inner_of}
use Rattle.http_messages.specs.declared.asking.TheConstants.{MOST_HEAD_BYTES, MOST_FIELDS}
use Rattle.http_messages.specs.Heads.{FindsHead}
use Rattle.http_messages.proofs.WantedAnswers.{wanted_answered}
use Rattle.http_messages.proofs.wanting.read_wanted.Goals as goal

pub returns-clause-answer : goal.returns-clause-answer
returns-clause-answer g c =
    let buffer = c.read_head.new.buffer in
    let found : FindsHead (g.R.Read.remaining (inner_of c.args.reader.now)) (g.R.Read.remaining (inner_of c.read_head.new.reader)) buffer c.read_head.new.headers (Some (c.in-Some.spans, c.in-Some.filled)) =
    rw (c.in-Some.is, c.clear.ensures.inner) at c.in_ok-spans.ensures.head in
    let long : length (take c.in-Some.filled buffer) ≡ c.in-Some.filled = length-take-le _ buffer found.0 in
    let short : length (take c.in-Some.filled buffer) ≤ MOST_HEAD_BYTES = omega arith in
    let few : length c.read_head.new.headers ≤ MOST_FIELDS = omega arith in
    wanted_answered c.args.most _ _ (take c.in-Some.filled buffer) c.read_head.new.headers c.in-Some.spans short few found.1 c.wanted_of.result c.wanted_of.ensures.answer
