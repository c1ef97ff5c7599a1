use Rattle.std.proofs.Common.{ℕ, List}
use Rattle.plan_basics.specs.Watched.{inner_of}
use Rattle.request_json.specs.RequestFaults.{ReadsAsSomeRequest}
use Rattle.text_commands.proofs.Judging.{read_judged}
use Rattle.text_commands.proofs.texts.judge_input.Goals as goal

pub returns-clause-shown : goal.returns-clause-shown
returns-clause-shown g c =
    read_judged (λ (bytes : List ℕ). ReadsAsSomeRequest bytes) c.deref.result.now (g.W.Write.contents (inner_of c.args.out.now)) (g.W.Write.contents (inner_of c.judge_request.new.out)) c.judge_request.result
    c.judge_request.ensures.shown
