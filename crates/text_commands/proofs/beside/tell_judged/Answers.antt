use Rattle.std.proofs.Common.{◌≡◌, ◌≢◌, Some, IfOk, ap, arith, length, subst, sym}
use Rattle.std.proofs.lemmas.Bool.{eqb-false}
use Rattle.plan_basics.specs.Watched.{inner_of}
use Rattle.plan_records.specs.plan_model.specs.Contents.{AddedParts}
use Rattle.command_answers.specs.Given.{IsExtensionOf}
use Rattle.text_commands.specs.Judged.{AreFaultsShown}
use Rattle.text_commands.proofs.JudgedBeside.{shown_alone}
use Rattle.text_commands.proofs.beside.tell_judged.Goals as goal

pub returns-clause-shown : goal.returns-clause-shown
returns-clause-shown g c =
    let old = g.W.Write.contents (inner_of c.args.out.now) in
    let new = g.W.Write.contents (inner_of c.tell_found.new.out) in
    let faults = c.in_ok-own.own.faults in
    let count : c.len.result ≡ length faults.items = omega (arith, faults.ok.0, c.len.ensures) in
    let some : length faults.items ≢ 0 = λ z. eqb-false faults.len 0 (sym c.if-is_empty.ensures) (omega (arith, faults.ok.0, z)) in
    let shown = subst (λ n. IfOk c.tell_found.result (AreFaultsShown n old new)) count c.tell_found.ensures.shown in
    shown_alone c.args.plan.now.plan c.args.text.now old new c.tell_found.result
    (λ (s : AddedParts) (denotes : IsExtensionOf c.args.text.now (Some s)). some (ap length (c.in_ok-own.ensures.none.1 (s, denotes))))
    (length faults.items) some shown
