use Rattle.plan_basics.specs.Watched.{inner_of}
use Rattle.plan_reports.specs.Reports.{desk_show_refusal_of}
use Rattle.plan_shows.specs.Shows.{IsShow}
use Rattle.plan_reports.proofs.Whys.{text_begun, text_written}
use Rattle.plan_reports.proofs.reports.show_report.Goals as goal

pub returns-clause-written : goal.returns-clause-written
returns-clause-written g c =
    text_written (desk_show_refusal_of c.args.desk.now.is_usable c.args.show.now c.args.desk.now.plan) (IsShow c.args.show.now c.args.desk.now.plan c.args.desk.now.receipts)
    (g.W.Write.contents (inner_of c.args.writer.now)) (g.W.Write.contents (inner_of c.deliver.new.writer)) c.in_ok-text.text.items
    c.in_ok-text.ensures.none_owed c.in_ok-text.ensures.text c.deliver.result (rw (c.clear.ensures.inner, c.deref.ensures.value) at c.deliver.ensures.written)

pub returns-clause-begun : goal.returns-clause-begun
returns-clause-begun g c =
    text_begun (desk_show_refusal_of c.args.desk.now.is_usable c.args.show.now c.args.desk.now.plan) (IsShow c.args.show.now c.args.desk.now.plan c.args.desk.now.receipts)
    (g.W.Write.contents (inner_of c.args.writer.now)) (g.W.Write.contents (inner_of c.deliver.new.writer)) c.in_ok-text.text.items
    c.in_ok-text.ensures.none_owed c.in_ok-text.ensures.text c.deliver.result (rw (c.clear.ensures.inner, c.deref.ensures.value) at c.deliver.ensures.begun)
