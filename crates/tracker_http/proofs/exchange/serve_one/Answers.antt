use Rattle.std.proofs.Common.{◌≡◌, ◌∙◌, rules, Err}
use Rattle.plan_basics.specs.Watched.{inner_of}
use Rattle.request_json.specs.declared.WireFault.TheVariants as fault
use Rattle.tracker_http.proofs.Ended.{keeps_itself, ends_sent, ends_unsent}
use Rattle.tracker_http.proofs.exchange.serve_one.Goals as goal

pub returns-in_err-reply-clause-ends : goal.returns-in_err-reply-clause-ends
returns-in_err-reply-clause-ends g c =
    let is : c.from_residual-in_err-reply.result ≡ Err fault.Memory = search rules in
    let old = g.W.Write.contents (inner_of c.args.writer.now) in
    rw c.clear.ensures.inner
    (ends_unsent g.S.Store (g.R.Read.remaining (inner_of c.args.reader.now)) c.args.desk.now c.told_to.new.desk c.in_ok-told.told c.in_ok-told.ensures.told c.in_ok-told.ensures.continues.stays_open
    c.from_residual-in_err-reply.result old old is (keeps_itself old))

pub returns-clause-ends : goal.returns-clause-ends
returns-clause-ends g c =
    ends_sent g.S.Store (g.R.Read.remaining (inner_of c.args.reader.now)) c.args.desk.now c.told_to.new.desk c.in_ok-told.told c.in_ok-told.ensures.told c.in_ok-told.ensures.continues.stays_open
    c.send.result (g.W.Write.contents (inner_of c.args.writer.now)) (g.W.Write.contents (inner_of c.send.new.writer)) c.deref.result.now
    (c.deref.ensures.value ∙ c.in_ok-reply.ensures)
    (rw c.clear.ensures.inner at c.send.ensures.whole)
    (rw c.clear.ensures.inner at c.send.ensures.beginning)
    c.send.ensures.fault
