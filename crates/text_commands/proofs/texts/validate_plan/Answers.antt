use Rattle.std.proofs.Common.{◌≡◌, ℕ, List, IfOk, arith, length, subst}
use Rattle.plan_basics.specs.Watched.{inner_of}
use Rattle.text_faults.specs.TextFaults.{TextDenotesSome}
use Rattle.text_commands.specs.Judged.{AreFaultsShown}
use Rattle.text_commands.proofs.Judging.{by_length, judged, read_judged}
use Rattle.text_commands.proofs.texts.validate_plan.Goals as goal

pub returns-clause-shown : goal.returns-clause-shown
returns-clause-shown g c =
    let old = g.W.Write.contents (inner_of c.args.out.now) in
    let new = g.W.Write.contents (inner_of c.tell_found.new.out) in
    let text = c.deref.result.now in
    let faults = c.in_ok-found.found.faults in
    let count : c.len.result ≡ length faults.items = omega (arith, faults.ok.0, c.len.ensures) in
    let shown = subst (λ n. IfOk c.tell_found.result (AreFaultsShown n old new)) count c.tell_found.ensures.shown in
    read_judged (λ (bytes : List ℕ). TextDenotesSome bytes) text old new c.tell_found.result
    (judged (TextDenotesSome text) (length faults.items) old new c.tell_found.result (by_length (TextDenotesSome text) faults.items c.in_ok-found.ensures.none) shown)
