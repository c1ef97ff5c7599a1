use Rattle.std.proofs.Common.{◌≡◌, IfOk, arith, length, subst}
use Rattle.plan_basics.specs.Watched.{inner_of}
use Rattle.request_json.specs.RequestFaults.{ReadsAsSomeRequest}
use Rattle.text_commands.specs.Judged.{AreFaultsShown}
use Rattle.text_commands.proofs.Judging.{by_length, judged}
use Rattle.text_commands.proofs.texts.judge_request.Goals as goal

pub returns-clause-shown : goal.returns-clause-shown
returns-clause-shown g c =
    let old = g.W.Write.contents (inner_of c.args.out.now) in
    let new = g.W.Write.contents (inner_of c.tell_found.new.out) in
    let text = c.args.text.now in
    let faults = c.in_ok-faults.faults in
    let count : c.len.result ≡ length faults.items = omega (arith, faults.ok.0, c.len.ensures) in
    let shown = subst (λ n. IfOk c.tell_found.result (AreFaultsShown n old new)) count c.tell_found.ensures.shown in
    judged (ReadsAsSomeRequest text) (length faults.items) old new c.tell_found.result (by_length (ReadsAsSomeRequest text) faults.items c.in_ok-faults.ensures.none) shown
