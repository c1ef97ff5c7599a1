use Rattle.std.proofs.Common.{◌≡◌, FitsSigned, codes, rules, to_z-of_z, w64}
use Rattle.clap.specs.Matches.{found_of}
use Rattle.plan_basics.specs.Watched.{inner_of}
use Rattle.command_answers.specs.Given.{IsNoMinute}
use Rattle.command_words.specs.Words.{text_given}
use Rattle.command_answers.specs.declared.endings.Fault.TheVariants as fault
use Rattle.request_commands.proofs.Told.{extend_shown}
use Rattle.command_answers.proofs.Statuses.{of_them_too}
use Rattle.request_commands.proofs.requests.extend.Goals as goal

pub returns-clause-shown : goal.returns-clause-shown
returns-clause-shown g c =
    let fits : FitsSigned w64 c.in_ok-at.at = search rules in
    extend_shown c.make_stored.result (g.W.Write.contents (inner_of c.args.out.now)) (g.W.Write.contents (inner_of c.make_stored.new.out))
    (text_given (found_of c.args.given.now) (codes "at")) c.in_ok-at.at c.in_ok-extension.extension c.in_ok-at.ensures.minute (simp to_z-of_z at c.make_stored.ensures.shown)

pub returns-clause-fault : goal.returns-clause-fault
returns-clause-fault g c = of_them_too (λ f. (f ≡ fault.Moment) × IsNoMinute (text_given (found_of c.args.given.now) (codes "at"))) c.make_stored.result c.make_stored.ensures.fault
