use Rattle.std.proofs.Common.{◌≡◌, inl, inr, false, true}
use Rattle.plan_records.specs.Answer.{answer_of}
use Rattle.tracker_http.specs.Guard.{IsTooFar}
use Rattle.tracker_http.proofs.Continuing.{called}
use Rattle.tracker_http.proofs.asking.tell_report.Goals as goal

pub returns-clause-continues : goal.returns-clause-continues
returns-clause-continues g c =
    called g.S.Store c.args.desk.now c.call_numbered-reply.new.self (answer_of c.call_numbered-reply.result) c.call_numbered-reply.ensures.clean c.call_numbered-reply.ensures.tables _ c.call_numbered-reply.ensures.survives

pub returns-clause-told : goal.returns-clause-told
returns-clause-told g c =
    let near : ¬ IsTooFar c.args.ahead c.args.desk.now.plan c.in-Report.report.request.at = λ far. let wrong : false ≡ true = rw c.if-is_too_far.false at ((rw c.plan.ensures.plan at c.is_too_far.ensures).1 far) in absurd cc in
    inl (c.in-Report.report, rw c.in-Report.is at c.requires.reading, inr (near, c.call_numbered-reply.ensures.answers))
