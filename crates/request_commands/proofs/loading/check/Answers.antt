use Rattle.std.proofs.Common.{FitsSigned, codes, rules, to_z-of_z, w64}
use Rattle.clap.specs.Matches.{found_of}
use Rattle.plan_basics.specs.Watched.{inner_of}
use Rattle.plan_records.specs.Answer.{answer_of}
use Rattle.command_words.specs.Words.{text_given}
use Rattle.request_commands.proofs.Loaded.{check_shown}
use Rattle.request_commands.proofs.loading.check.Goals as goal

pub returns-in-Ok-clause-shown : goal.returns-in-Ok-clause-shown
returns-in-Ok-clause-shown g c =
    let fits : FitsSigned w64 c.in_ok-at.at = search rules in
    check_shown (text_given (found_of c.args.given.now) (codes "at")) c.in_ok-at.at c.in-Ok.draft (answer_of c.answer_alone.result) c.tell.result
    (g.W.Write.contents (inner_of c.args.out.now)) (g.W.Write.contents (inner_of c.tell.new.out))
    c.in_ok-at.ensures.minute (simp to_z-of_z at c.answer_alone.ensures) c.tell.ensures.shown
