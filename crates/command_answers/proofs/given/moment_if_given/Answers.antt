use Rattle.std.proofs.Common.{◌≡◌, ◌↔◌, refl, rules, subst, ℤ, Some, IsSome}
use Rattle.clap.specs.Matches.{first_value, found_of}
use Rattle.plan_basics.specs.Minutes.{IsMinuteText}
use Rattle.command_answers.proofs.Minutes.{no_minute, no_minute_given}
use Rattle.command_answers.proofs.given.moment_if_given.Goals as goal

pub returns-in-None-clause-fault : goal.returns-in-None-clause-fault
returns-in-None-clause-fault c =
    let text = c.in-Some.text.now in
    let given : first_value (found_of c.args.given.now) c.args.name.now ≡ Some text = search rules in (
      refl,
      no_minute_given (first_value (found_of c.args.given.now) c.args.name.now) text given
          (no_minute text c.minute_of_text.result c.in-None.is
          (subst (λ t. IsSome c.minute_of_text.result ↔ ((z : ℤ) × IsMinuteText t z)) c.as_bytes.ensures.value c.minute_of_text.ensures.some)),
    )
