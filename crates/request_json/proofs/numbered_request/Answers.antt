use Rattle.std.proofs.Common.{codes, sym, true≢false}
use Rattle.serde_json.specs.Find.{get}
use Rattle.serde_json.specs.View.{view}
use Rattle.request_json.proofs.Exactly.{report_said, report_of, no_report, no_verb, no_report_verb}
use Rattle.request_json.proofs.Texts.{text_there}
use Rattle.request_json.proofs.numbered_request.Goals as goal

pub returns-in_default : goal.returns-in_default
returns-in_default c = no_verb (view c.args.value.now) c.in_default.ensures

pub returns-then-not-is_report : goal.returns-then-not-is_report
returns-then-not-is_report c =
    let there = text_there (get (codes "do") (view c.args.value.now)) c.in-Some.verb.now c.in-Some.ensures in
    no_report_verb (view c.args.value.now) c.in-Some.verb.now there (λ v. true≢false (sym (c.if-not-is_report.ensures.1 v)))

pub returns-in_default-tracker_at : goal.returns-in_default-tracker_at
returns-in_default-tracker_at c = λ n h. c.in_default-tracker_at.ensures n.tracker (report_said (view c.args.value.now) n h).0

pub returns-in_default-number_at : goal.returns-in_default-number_at
returns-in_default-number_at c = λ n h. c.in_default-number_at.ensures n.number (report_said (view c.args.value.now) n h).1

pub returns-in_default-2 : goal.returns-in_default-2
returns-in_default-2 c = no_report (view c.args.value.now) (rw c.in_default-2.is at c.in_ok-request.ensures)

pub returns : goal.returns
returns c =
    let there = text_there (get (codes "do") (view c.args.value.now)) c.in-Some.verb.now c.in-Some.ensures in
    report_of (view c.args.value.now) (record { tracker = c.in-Some-tracker_at.tracker; number = c.in-Some-number_at.number; request = c.in-Some-2.request }) c.in-Some.verb.now
    c.in-Some-tracker_at.ensures c.in-Some-number_at.ensures there (c.is_report.ensures.0 c.if-not-is_report.false) (rw c.in-Some-2.is at c.in_ok-request.ensures)
