use Rattle.std.proofs.Common.{sym, subst, Decides, MatchOption}
use Rattle.plan_records.specs.Acceptance.{IsOld}
use Rattle.plan_checks.proofs.OpenEnds.{succeeds_told}
use Rattle.plan_checks.specs.Additions.{IsOldWith, MaySucceed}
use Rattle.plan_checks.proofs.ends.may_succeed.Goals as goal

pub returns-in-Some : goal.returns-in-Some
returns-in-Some c = λ P s o told.
    let is = subst (λ x. MatchOption x (¬ IsOld P s o) (IsOldWith P s o)) c.in-Some.is told in
    subst (λ b. Decides b (MaySucceed P s o)) (sym c.is_waiting_or_ready.ensures) (succeeds_told P s o c.in-Some.status is)
