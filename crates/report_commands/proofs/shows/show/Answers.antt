use Rattle.std.proofs.Common.{◌≡◌, codes}
use Rattle.clap.specs.Matches.{found_of}
use Rattle.plan_basics.specs.Watched.{inner_of}
use Rattle.command_desks.specs.desk_tables.specs.Faults.{IsOpeningRefusal}
use Rattle.command_words.specs.Words.{text_given}
use Rattle.command_answers.specs.declared.endings.Fault.TheVariants as fault
use Rattle.command_answers.proofs.Opened.{none_faults}
use Rattle.report_commands.specs.Shown.{AsksNoShow}
use Rattle.command_answers.proofs.Statuses.{of_them_too}
use Rattle.report_commands.proofs.Told.{show_refused, show_shown}
use Rattle.report_commands.proofs.shows.show.Goals as goal

pub returns-in-Ok-clause-shown : goal.returns-in-Ok-clause-shown
returns-in-Ok-clause-shown g c =
    show_shown c.show_and_close.result (g.W.Write.contents (inner_of c.args.out.now)) (g.W.Write.contents (inner_of c.show_and_close.new.out))
    (text_given (found_of c.args.given.now) (codes "kind")) (text_given (found_of c.args.given.now)) c.in_ok-wanted.wanted
    c.in-Ok.desk.is_usable c.in-Ok.desk.plan c.in-Ok.desk.receipts c.in_ok-wanted.ensures.show c.show_and_close.ensures.shown

pub returns-in-Ok-clause-fault : goal.returns-in-Ok-clause-fault
returns-in-Ok-clause-fault g c =
    of_them_too (λ f. (f ≡ fault.Words) × AsksNoShow (text_given (found_of c.args.given.now) (codes "kind")) (text_given (found_of c.args.given.now)))
    c.show_and_close.result c.show_and_close.ensures.fault

pub returns-in-Err-clause-shown : goal.returns-in-Err-clause-shown
returns-in-Err-clause-shown g c =
    show_refused c.tell_no_desk.result (g.W.Write.contents (inner_of c.args.out.now)) (g.W.Write.contents (inner_of c.tell_no_desk.new.out))
    (text_given (found_of c.args.given.now) (codes "kind")) (text_given (found_of c.args.given.now)) c.in_ok-wanted.wanted c.in-Err.none
    c.in_ok-wanted.ensures.show c.in-Err.ensures c.tell_no_desk.ensures.shown

pub returns-in-Err-clause-fault : goal.returns-in-Err-clause-fault
returns-in-Err-clause-fault g c =
    of_them_too (λ f. (f ≡ fault.Words) × AsksNoShow (text_given (found_of c.args.given.now) (codes "kind")) (text_given (found_of c.args.given.now)))
    c.tell_no_desk.result (none_faults IsOpeningRefusal c.in-Err.none c.tell_no_desk.result c.in-Err.ensures c.tell_no_desk.ensures.fault)
