use Rattle.std.proofs.Common.{sym, subst, pos, Option, refl}
use Rattle.plan_laws.specs.plan_records.specs.Step.{Receipt}
use Rattle.plan_laws.specs.plan_records.specs.declared.Request.{Request}
use Rattle.plan_laws.specs.plan_records.specs.declared.What.TheVariants.{Tick}
use Rattle.tracker_receipts.specs.Judging.{IsJudged, numbered_by}
use Rattle.tracker_receipts.proofs.Told.{told_again, told_new}
use Rattle.tracker_receipts.proofs.kept.Receipts.judge.Goals as goal

-- some request
any : Request
any = record { at = pos 0; what = Tick }

pub returns-in-Some-clause-new : goal.returns-in-Some-clause-new
returns-in-Some-clause-new c =
    let n = numbered_by c.args.tracker.now c.args.number c.args.text.now any in
    told_new c.args.self.now n c.judge.result (subst (λ (last : Option Receipt). IsJudged last n c.judge.result) (sym c.in-Some.ensures.found) (c.judge.ensures c.args.tracker.now any))

pub returns-in-Some-clause-again : goal.returns-in-Some-clause-again
returns-in-Some-clause-again c = λ q.
    let n = numbered_by c.args.tracker.now c.args.number c.args.text.now q in
    told_again c.args.self.now n c.judge.result (subst (λ (last : Option Receipt). IsJudged last n c.judge.result) (sym c.in-Some.ensures.found) (c.judge.ensures c.args.tracker.now q))

pub returns-in-None-clause-new : goal.returns-in-None-clause-new
returns-in-None-clause-new c =
    let n = numbered_by c.args.tracker.now c.args.number c.args.text.now any in
    told_new c.args.self.now n c.first_judged.result (subst (λ (last : Option Receipt). IsJudged last n c.first_judged.result) (sym (c.in-None.ensures.absent refl)) (c.first_judged.ensures c.args.tracker.now c.args.text.now any))

pub returns-in-None-clause-again : goal.returns-in-None-clause-again
returns-in-None-clause-again c = λ q.
    let n = numbered_by c.args.tracker.now c.args.number c.args.text.now q in
    told_again c.args.self.now n c.first_judged.result (subst (λ (last : Option Receipt). IsJudged last n c.first_judged.result) (sym (c.in-None.ensures.absent refl)) (c.first_judged.ensures c.args.tracker.now c.args.text.now q))
