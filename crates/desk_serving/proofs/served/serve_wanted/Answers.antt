use Rattle.std.proofs.Common.{◌≡◌, rules, Err, false, true}
use Rattle.plan_basics.specs.Watched.{inner_of}
use Rattle.desk_journal.specs.Lines.{entries_of}
use Rattle.tracker_http.proofs.Ended.{keeps_itself}
use Rattle.desk_serving.proofs.Ending.{ends_sent, ends_unanswered, never_writer, stood}
use Rattle.desk_serving.proofs.Foreign.{foreign_ends}
use Rattle.desk_serving.proofs.served.serve_wanted.Goals as goal

pub returns-in_err-reply-clause-ends : goal.returns-in_err-reply-clause-ends
returns-in_err-reply-clause-ends g c =
    let f = c.in_err-reply.field-0.0 in
    let is : c.from_residual.result ≡ Err f = search rules in
    let written = g.W.Write.contents (inner_of c.args.writer.now) in
    rw (is, c.clear.ensures.inner)
    (ends_unanswered g.S.Store c.args.terms.now (g.R.Read.remaining (inner_of c.args.reader.now)) c.args.desk.now c.wanted_reply.new.desk
    (entries_of g.J.Write.contents c.args.journal.now) (entries_of g.J.Write.contents c.wanted_reply.new.journal) (Unit {0}) f (written, written) (keeps_itself written) c.in_err-reply.ensures.broken)

pub returns-in_err-reply-clause-stands : goal.returns-in_err-reply-clause-stands
returns-in_err-reply-clause-stands g c =
    stood g.S.Store c.args.terms.now (g.R.Read.remaining (inner_of c.args.reader.now)) c.args.desk.now c.wanted_reply.new.desk
    (entries_of g.J.Write.contents c.args.journal.now) (entries_of g.J.Write.contents c.wanted_reply.new.journal) c.from_residual.result
    (g.W.Write.contents (inner_of c.args.writer.now), g.W.Write.contents (inner_of c.clear.new.self)) (returns-in_err-reply-clause-ends g c)

pub returns-clause-ends : goal.returns-clause-ends
returns-clause-ends g c =
    ends_sent g.S.Store c.args.terms.now (g.R.Read.remaining (inner_of c.args.reader.now)) c.args.desk.now c.wanted_reply.new.desk
    (entries_of g.J.Write.contents c.args.journal.now) (entries_of g.J.Write.contents c.wanted_reply.new.journal) c.sent.result
    (g.W.Write.contents (inner_of c.args.writer.now), g.W.Write.contents (inner_of c.sent.new.writer)) c.in_ok-reply.reply.items c.deref.result.now c.deref.ensures.value c.in_ok-reply.ensures.made
    (rw c.clear.ensures.inner at c.sent.ensures.whole) (rw c.clear.ensures.inner at c.sent.ensures.beginning) c.sent.ensures.fault

pub returns-clause-stands : goal.returns-clause-stands
returns-clause-stands g c =
    stood g.S.Store c.args.terms.now (g.R.Read.remaining (inner_of c.args.reader.now)) c.args.desk.now c.wanted_reply.new.desk
    (entries_of g.J.Write.contents c.args.journal.now) (entries_of g.J.Write.contents c.wanted_reply.new.journal) c.sent.result
    (g.W.Write.contents (inner_of c.args.writer.now), g.W.Write.contents (inner_of c.sent.new.writer)) (returns-clause-ends g c)

pub returns-in_err-reply-clause-writer_fault : goal.returns-in_err-reply-clause-writer_fault
returns-in_err-reply-clause-writer_fault g c =
    let f = c.in_err-reply.field-0.0 in
    let is : c.from_residual.result ≡ Err f = search rules in
    let fresh = c.clear.ensures.fresh in (
      λ same. absurd (never_writer g.S.Store c.args.terms.now (g.R.Read.remaining (inner_of c.args.reader.now)) c.args.desk.now c.wanted_reply.new.desk
          (entries_of g.J.Write.contents c.args.journal.now) (entries_of g.J.Write.contents c.wanted_reply.new.journal) (Unit {0}) c.from_residual.result f is c.in_err-reply.ensures.broken same),
      λ failed. let wrong : false ≡ true = cc in absurd cc,
    )

pub returns-in_err-reply-clause-foreign : goal.returns-in_err-reply-clause-foreign
returns-in_err-reply-clause-foreign g c =
    foreign_ends g.S.Store c.args.terms.now (g.R.Read.remaining (inner_of c.args.reader.now)) c.args.desk.now c.wanted_reply.new.desk c.from_residual.result
    (g.W.Write.contents (inner_of c.args.writer.now), g.W.Write.contents (inner_of c.clear.new.self)) (entries_of g.J.Write.contents c.args.journal.now, entries_of g.J.Write.contents c.wanted_reply.new.journal)
    (returns-in_err-reply-clause-ends g c)

pub returns-clause-foreign : goal.returns-clause-foreign
returns-clause-foreign g c =
    foreign_ends g.S.Store c.args.terms.now (g.R.Read.remaining (inner_of c.args.reader.now)) c.args.desk.now c.wanted_reply.new.desk c.sent.result
    (g.W.Write.contents (inner_of c.args.writer.now), g.W.Write.contents (inner_of c.sent.new.writer)) (entries_of g.J.Write.contents c.args.journal.now, entries_of g.J.Write.contents c.wanted_reply.new.journal)
    (returns-clause-ends g c)
