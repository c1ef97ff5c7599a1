use Rattle.std.proofs.Common.{inl}
use Rattle.desk_journal.specs.Lines.{entries_of}
use Rattle.http_messages.proofs.Guarded.{no}
use Rattle.tracker_http.proofs.Breaking.{always_err, broken_as_read, kept, made_as_read, turned}
use Rattle.tracker_http.proofs.replying.asked_reply.Goals as goal

pub returns-then-is_turned_away-clause-made : goal.returns-then-is_turned_away-clause-made
returns-then-is_turned_away-clause-made g c =
    turned g.S.Store c.args.ahead c.args.bound c.args.asking.now c.in-Ok.reading c.in-Ok.ensures.reading (c.is_turned_away.ensures.0 c.if-is_turned_away.true)
    c.args.desk.now (entries_of g.J.Write.contents c.args.journal.now) c.turned_away.result c.turned_away.ensures.made

pub returns-then-is_turned_away-clause-broken : goal.returns-then-is_turned_away-clause-broken
returns-then-is_turned_away-clause-broken g c =
    always_err c.turned_away.result (inl (kept c.args.desk.now (entries_of g.J.Write.contents c.args.journal.now)))

pub returns-clause-made : goal.returns-clause-made
returns-clause-made g c =
    made_as_read g.S.Store c.args.ahead c.args.bound c.args.asking.now c.in-Ok.reading c.in-Ok.ensures.reading (no c.is_turned_away.result c.is_turned_away.ensures c.if-is_turned_away.false)
    c.args.desk.now c.read_reply.new.desk (entries_of g.J.Write.contents c.args.journal.now) (entries_of g.J.Write.contents c.read_reply.new.journal) c.read_reply.result c.read_reply.ensures.made

pub returns-clause-broken : goal.returns-clause-broken
returns-clause-broken g c =
    broken_as_read g.S.Store c.args.ahead c.args.bound c.args.asking.now c.in-Ok.reading c.in-Ok.ensures.reading (no c.is_turned_away.result c.is_turned_away.ensures c.if-is_turned_away.false)
    c.args.desk.now c.read_reply.new.desk (entries_of g.J.Write.contents c.args.journal.now) (entries_of g.J.Write.contents c.read_reply.new.journal) c.read_reply.result c.read_reply.ensures.broken
