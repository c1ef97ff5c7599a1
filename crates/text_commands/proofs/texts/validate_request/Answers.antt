use Rattle.std.proofs.Common.{◌≡◌, codes, rules, tests}
use Rattle.plan_basics.specs.Watched.{inner_of}
use Rattle.text_commands.proofs.Judging.{input_judged, word_judged}
use Rattle.text_commands.proofs.texts.validate_request.Goals as goal

pub returns-then-eq-clause-shown : goal.returns-then-eq-clause-shown
returns-then-eq-clause-shown g c =
    let hyphen : c.args.word.now ≡ codes "-" = search (rules, tests) in
    input_judged c.args.word.now (g.W.Write.contents (inner_of c.args.out.now)) (g.W.Write.contents (inner_of c.judge_input.new.out)) c.judge_input.result hyphen c.judge_input.ensures.shown

pub returns-else-eq-clause-shown : goal.returns-else-eq-clause-shown
returns-else-eq-clause-shown g c =
    word_judged c.args.word.now (g.W.Write.contents (inner_of c.args.out.now)) (g.W.Write.contents (inner_of c.judge_request.new.out)) c.judge_request.result
    c.as_bytes.result.now c.as_bytes.ensures.value c.judge_request.ensures.shown
