use Rattle.desk_journal.specs.Lines.{entries_of}
use Rattle.tracker_http.proofs.Breaking.{always_err, breaks_off, unmade}
use Rattle.tracker_http.proofs.replying.read_reply.Goals as goal

pub returns-in_err-reply_to-in-Ok-clause-broken : goal.returns-in_err-reply_to-in-Ok-clause-broken
returns-in_err-reply_to-in-Ok-clause-broken g c =
    always_err c.from_residual.result
    (unmade g.S.Store c.args.ahead c.args.asking.now c.args.reading.now c.args.desk.now c.journalled.new.desk (entries_of g.J.Write.contents c.args.journal.now) (entries_of g.J.Write.contents c.journalled.new.journal)
    c.in-Ok.told c.in-Ok.ensures.journals.0 c.in-Ok.ensures.journals.1)

pub returns-in-Err-clause-broken : goal.returns-in-Err-clause-broken
returns-in-Err-clause-broken g c =
    breaks_off g.S.Store c.args.ahead c.args.asking.now c.args.reading.now c.args.desk.now c.journalled.new.desk (entries_of g.J.Write.contents c.args.journal.now) (entries_of g.J.Write.contents c.journalled.new.journal)
    c.in-Err.fault c.in-Err.ensures.journals
