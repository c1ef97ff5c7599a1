use Rattle.std.proofs.Common.{◌≡◌, FitsSigned, codes, rules, to_z-of_z, w64}
use Rattle.clap.specs.Matches.{found_of}
use Rattle.plan_basics.specs.Watched.{inner_of}
use Rattle.command_answers.specs.Given.{IsNoMinute}
use Rattle.command_words.specs.Words.{text_given}
use Rattle.command_answers.specs.declared.endings.Fault.TheVariants as fault
use Rattle.request_commands.proofs.Loaded.{load_shown}
use Rattle.command_answers.proofs.Statuses.{of_them_too}
use Rattle.request_commands.proofs.loading.load.Goals as goal

pub returns-in-Ok-clause-shown : goal.returns-in-Ok-clause-shown
returns-in-Ok-clause-shown g c =
    let fits : FitsSigned w64 c.in_ok-at.at = search rules in
    load_shown (text_given (found_of c.args.given.now) (codes "at")) c.in_ok-at.at c.in-Ok.draft c.load_draft.result
    (g.W.Write.contents (inner_of c.args.out.now)) (g.W.Write.contents (inner_of c.load_draft.new.out))
    c.in_ok-at.ensures.minute (simp to_z-of_z at c.load_draft.ensures.shown)

pub returns-in-Ok-clause-fault : goal.returns-in-Ok-clause-fault
returns-in-Ok-clause-fault g c = of_them_too (λ f. (f ≡ fault.Moment) × IsNoMinute (text_given (found_of c.args.given.now) (codes "at"))) c.load_draft.result c.load_draft.ensures.fault
