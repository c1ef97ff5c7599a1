use Rattle.std.proofs.Common.{◌≡◌, ap, rules, Ok, Err}
use Rattle.desk_journal.specs.Lines.{entries_of}
use Rattle.desk_journal.proofs.Ending.{answered, stood, untold}
use Rattle.tracker_http.specs.Journalled.{answer_lines, request_lines, Takes}
use Rattle.tracker_http.proofs.journalling.journalled.Goals as goal

pub returns-clause-journals : goal.returns-clause-journals
returns-clause-journals g c =
    answered (Takes g.S.Store c.args.ahead c.args.asking.now.asked) (request_lines c.args.desk.now.plan c.args.reading.now c.args.asking.now) (answer_lines c.args.asking.now.asked) c.args.desk.now c.tell_read.new.desk
    (entries_of g.J.Write.contents c.args.journal.now) (entries_of g.J.Write.contents c.enter_answer.new.journal) (entries_of g.J.Write.contents c.enter_request.new.journal)
    (rw c.plan.ensures.plan at c.in_ok-enter_request.ensures.whole) c.in-Ok.told (c.in-Ok.ensures.told, c.in-Ok.ensures.continues.stays_open) c.in_ok-enter_answer.ensures.whole

pub returns-clause-stands : goal.returns-clause-stands
returns-clause-stands g c =
    stood (Takes g.S.Store c.args.ahead c.args.asking.now.asked) (request_lines c.args.desk.now.plan c.args.reading.now c.args.asking.now) (answer_lines c.args.asking.now.asked) c.args.desk.now c.tell_read.new.desk
    (entries_of g.J.Write.contents c.args.journal.now) (entries_of g.J.Write.contents c.enter_answer.new.journal) (Ok c.in-Ok.told) (returns-clause-journals g c)

pub returns-in_err-enter_answer-clause-journals : goal.returns-in_err-enter_answer-clause-journals
returns-in_err-enter_answer-clause-journals g c =
    let f = c.in_err-enter_answer.field-0.0 in
    let is : c.from_residual-in_err-enter_answer.result ≡ Err f = search rules in
    rw is
    (untold (Takes g.S.Store c.args.ahead c.args.asking.now.asked) (request_lines c.args.desk.now.plan c.args.reading.now c.args.asking.now) (answer_lines c.args.asking.now.asked) c.args.desk.now c.tell_read.new.desk
    (entries_of g.J.Write.contents c.args.journal.now) (entries_of g.J.Write.contents c.enter_answer.new.journal) (entries_of g.J.Write.contents c.enter_request.new.journal)
    (rw c.plan.ensures.plan at c.in_ok-enter_request.ensures.whole) c.in-Ok.told (c.in-Ok.ensures.told, c.in-Ok.ensures.continues.stays_open)
    f (λ same. c.in_err-enter_answer.ensures.after (ap Err same)) (λ same. c.in_err-enter_answer.ensures.beginning (ap Err same)) (λ same. c.in_err-enter_answer.ensures.memory (ap Err same)))

pub returns-in_err-enter_answer-clause-stands : goal.returns-in_err-enter_answer-clause-stands
returns-in_err-enter_answer-clause-stands g c =
    stood (Takes g.S.Store c.args.ahead c.args.asking.now.asked) (request_lines c.args.desk.now.plan c.args.reading.now c.args.asking.now) (answer_lines c.args.asking.now.asked) c.args.desk.now c.tell_read.new.desk
    (entries_of g.J.Write.contents c.args.journal.now) (entries_of g.J.Write.contents c.enter_answer.new.journal) c.from_residual-in_err-enter_answer.result (returns-in_err-enter_answer-clause-journals g c)
