use Rattle.std.proofs.Common.{◌≡◌, rules, sym, codes, Some, None, IfOk, subst}
use Rattle.clap.specs.Matches.{first_value, found_of}
use Rattle.plan_basics.specs.Watched.{inner_of}
use Rattle.text_commands.specs.Judged.{IsValidated}
use Rattle.text_commands.proofs.texts.validate_text.Goals as goal

pub returns-in-Some-clause-shown : goal.returns-in-Some-clause-shown
returns-in-Some-clause-shown g c =
    let old = g.W.Write.contents (inner_of c.args.out.now) in
    let new = g.W.Write.contents (inner_of c.validate_request.new.out) in
    let given : first_value (found_of c.args.given.now) (codes "request") ≡ Some c.in-Some.word.now = search rules in
    subst (λ o. IfOk c.validate_request.result (IsValidated o old new)) (sym given) c.validate_request.ensures.shown

pub returns-in-None-clause-shown : goal.returns-in-None-clause-shown
returns-in-None-clause-shown g c =
    let old = g.W.Write.contents (inner_of c.args.out.now) in
    let new = g.W.Write.contents (inner_of c.validate_plan.new.out) in
    let none : first_value (found_of c.args.given.now) (codes "request") ≡ None = search rules in
    subst (λ o. IfOk c.validate_plan.result (IsValidated o old new)) (sym none) c.validate_plan.ensures.shown
