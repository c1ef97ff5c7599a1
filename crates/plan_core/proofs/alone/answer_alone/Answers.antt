use Rattle.std.proofs.Common.{◌≡◌, FitsSigned, arith, of_z, rules, subst, to_z, w64, ℤ}
use Rattle.std.proofs.lemmas.Int.{ints}
use Rattle.plan_records.specs.Answer.{accepted, refused}
use Rattle.plan_core.proofs.Naming.{refused_alone, step_alone}
use Rattle.plan_core.specs.Trials.{IsAnswerAlone}
use Rattle.plan_core.proofs.alone.answer_alone.Goals as goal

pub returns-in-Ok : goal.returns-in-Ok
returns-in-Ok c =
    let fits : FitsSigned w64 c.args.at = search rules in
    let same : to_z w64 (of_z w64 c.args.at) ≡ c.args.at = omega (arith, ints, fits) in
    let named = c.in-Ok.ensures.named in
    subst (λ (at : ℤ). IsAnswerAlone at c.args.draft (accepted c.in-Ok.named.items)) same (step_alone (to_z w64 (of_z w64 c.args.at)) c.args.draft (accepted c.in-Ok.named.items) named.0 named.1)

pub returns-in-Err : goal.returns-in-Err
returns-in-Err c =
    let fits : FitsSigned w64 c.args.at = search rules in
    let same : to_z w64 (of_z w64 c.args.at) ≡ c.args.at = omega (arith, ints, fits) in
    subst (λ (at : ℤ). IsAnswerAlone at c.args.draft (refused c.in-Err.refusal)) same (refused_alone (to_z w64 (of_z w64 c.args.at)) c.args.draft c.in-Err.refusal c.in-Err.ensures.refused)
