use Rattle.plan_basics.specs.Watched.{inner_of}
use Rattle.plan_reports.specs.Reports.{IsWhyReport, why_refusal_of}
use Rattle.plan_reports.proofs.Whys.{text_begun, text_written}
use Rattle.plan_reports.proofs.reports.why_report.Goals as goal

pub returns-clause-written : goal.returns-clause-written
returns-clause-written g c =
    text_written (why_refusal_of c.args.desk.now.is_usable c.args.desk.now.plan c.args.key.now) (IsWhyReport c.args.desk.now.plan c.args.key.now c.args.at)
    (g.W.Write.contents (inner_of c.args.writer.now)) (g.W.Write.contents (inner_of c.deliver.new.writer)) c.in_ok-text.text.items
    c.in_ok-text.ensures.none_owed c.in_ok-text.ensures.text c.deliver.result (rw (c.clear.ensures.inner, c.deref.ensures.value) at c.deliver.ensures.written)

pub returns-clause-begun : goal.returns-clause-begun
returns-clause-begun g c =
    text_begun (why_refusal_of c.args.desk.now.is_usable c.args.desk.now.plan c.args.key.now) (IsWhyReport c.args.desk.now.plan c.args.key.now c.args.at)
    (g.W.Write.contents (inner_of c.args.writer.now)) (g.W.Write.contents (inner_of c.deliver.new.writer)) c.in_ok-text.text.items
    c.in_ok-text.ensures.none_owed c.in_ok-text.ensures.text c.deliver.result (rw (c.clear.ensures.inner, c.deref.ensures.value) at c.deliver.ensures.begun)
