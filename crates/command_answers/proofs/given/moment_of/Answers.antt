use Rattle.std.proofs.Common.{◌≡◌, ◌↔◌, ◌∙◌, refl, subst, codes, ℤ, IsSome}
use Rattle.clap.specs.Matches.{found_of}
use Rattle.plan_basics.specs.Minutes.{IsMinuteText}
use Rattle.command_words.specs.Words.{text_given}
use Rattle.command_answers.proofs.Minutes.{no_minute}
use Rattle.command_answers.proofs.given.moment_of.Goals as goal

pub returns-in-None-clause-fault : goal.returns-in-None-clause-fault
returns-in-None-clause-fault c =
    let text = text_given (found_of c.args.given.now) (codes "at") in
    let same : c.as_bytes.result.now ≡ text = c.as_bytes.ensures.value ∙ c.value_of.ensures in (
      refl,
      no_minute text c.minute_of_text.result c.in-None.is
          (subst (λ t. IsSome c.minute_of_text.result ↔ ((z : ℤ) × IsMinuteText t z)) same c.minute_of_text.ensures.some),
    )
