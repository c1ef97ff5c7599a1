use Rattle.std.proofs.Common.{◌≡◌, ◌∙◌, ap, subst, Ok, Err}
use Rattle.http_messages.specs.declared.statuses.Status.{Status}
use Rattle.http_messages.specs.declared.wanting.Wanted.TheVariants as wanted
use Rattle.plan_basics.specs.Watched.{inner_of}
use Rattle.desk_journal.specs.Lines.{entries_of}
use Rattle.desk_serving.specs.Served.{IsWanted}
use Rattle.tracker_http.specs.Told.{reply_of}
use Rattle.tracker_http.specs.declared.told.Told.TheVariants as told
use Rattle.desk_serving.proofs.Ending.{breaks_asked, serves_asked, serves_look, serves_test}
use Rattle.desk_serving.proofs.served.wanted_reply.Goals as goal

pub returns-in-Ok-Ok-Asked-clause-made : goal.returns-in-Ok-Ok-Asked-clause-made
returns-in-Ok-Ok-Asked-clause-made g c =
    let w = c.in-Ok-Ok-Asked in
    let known = g.R.Read.remaining (inner_of c.args.reader.now) in
    let outer = w.field-0-is in
    let inner = w.field-0-0-is in
    let named = w.asking-is in
    let same : w.field-0 ≡ Ok (wanted.Asked w.asking) = cc in
    serves_asked g.S.Store c.args.terms.now known c.args.desk.now c.asked_reply.new.desk (entries_of g.J.Write.contents c.args.journal.now) (entries_of g.J.Write.contents c.asked_reply.new.journal)
    w.asking (subst (IsWanted known) same w.ensures.answer) c.asked_reply.result c.asked_reply.ensures.made

pub returns-in-Ok-Ok-Asked-clause-broken : goal.returns-in-Ok-Ok-Asked-clause-broken
returns-in-Ok-Ok-Asked-clause-broken g c =
    let w = c.in-Ok-Ok-Asked in
    let known = g.R.Read.remaining (inner_of c.args.reader.now) in
    let outer = w.field-0-is in
    let inner = w.field-0-0-is in
    let named = w.asking-is in
    let same : w.field-0 ≡ Ok (wanted.Asked w.asking) = cc in
    breaks_asked g.S.Store c.args.terms.now known c.args.desk.now c.asked_reply.new.desk (entries_of g.J.Write.contents c.args.journal.now) (entries_of g.J.Write.contents c.asked_reply.new.journal)
    w.asking (subst (IsWanted known) same w.ensures.answer) c.asked_reply.result c.asked_reply.ensures.broken c.asked_reply.ensures.fault

pub returns-in_ok-look_shown-in-Ok-Ok-Look-clause-made : goal.returns-in_ok-look_shown-in-Ok-Ok-Look-clause-made
returns-in_ok-look_shown-in-Ok-Ok-Look-clause-made g c =
    let w = c.in-Ok-Ok-Look in
    let known = g.R.Read.remaining (inner_of c.args.reader.now) in
    let outer = w.field-0-is in
    let inner = w.field-0-0-is in
    let named = w.look-is in
    let same : w.field-0 ≡ Ok (wanted.Look w.look) = cc in
    serves_look g.S.Store c.args.terms.now known c.args.desk.now (entries_of g.J.Write.contents c.args.journal.now)
    w.look (subst (IsWanted known) same w.ensures.answer) c.in_ok-look_shown-in-Ok-Ok-Look.field-0.items c.in_ok-look_shown-in-Ok-Ok-Look.ensures

pub returns-in_ok-reply-in-Ok-Err-clause-made : goal.returns-in_ok-reply-in-Ok-Err-clause-made
returns-in_ok-reply-in-Ok-Err-clause-made g c =
    let w = c.in-Ok-Err in
    let known = g.R.Read.remaining (inner_of c.args.reader.now) in
    let outer = w.field-0-is in
    let named = w.test-is in
    let same : w.field-0 ≡ Err w.test = cc in
    serves_test g.S.Store c.args.terms.now known c.args.desk.now (entries_of g.J.Write.contents c.args.journal.now)
    w.test (subst (IsWanted known) same w.ensures.answer) c.in_ok-reply-in-Ok-Err.field-0.items
    (c.in_ok-reply-in-Ok-Err.ensures ∙ ap (λ (s : Status). reply_of (told.Fault s)) c.status.ensures)
