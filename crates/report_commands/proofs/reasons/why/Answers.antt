use Rattle.std.proofs.Common.{FitsSigned, IfOk, codes, rules, to_z-of_z, w64}
use Rattle.clap.specs.Matches.{first_value, found_of}
use Rattle.plan_basics.specs.Watched.{inner_of}
use Rattle.report_commands.specs.Whys.{IsWhyOfText}
use Rattle.command_words.specs.Words.{text_given}
use Rattle.report_commands.proofs.Reasoned.{why_asked_of_plan}
use Rattle.report_commands.proofs.reasons.why.Goals as goal

pub returns-in-None-Some-Some-clause-shown : goal.returns-in-None-Some-Some-clause-shown
returns-in-None-Some-Some-clause-shown g c =
    let fits : FitsSigned w64 c.in-None-Some-Some.at = search rules in
    let old = g.W.Write.contents (inner_of c.args.out.now) in
    let new = g.W.Write.contents (inner_of c.why_of_file.new.out) in
    let shown : IfOk c.why_of_file.result (IsWhyOfText c.in_ok-key.key c.in-None-Some-Some.at old new) = simp to_z-of_z at c.why_of_file.ensures.shown in
    why_asked_of_plan c.in_ok-key.key old new c.why_of_file.result (text_given (found_of c.args.given.now) (codes "op")) (first_value (found_of c.args.given.now) (codes "at"))
    c.in_ok-at.at c.in_ok-key.ensures.key c.in_ok-at.ensures.minute c.in-None-Some-Some.at c.in-None-Some-Some.is-2 shown
