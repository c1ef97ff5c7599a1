use Rattle.std.proofs.Common.{◌≡◌, ◌≢◌, subst, rules, MatchOption}
use Rattle.std.proofs.lemmas.Bool.{true_from_ne_false}
use Rattle.plan_records.specs.Acceptance.{IsOld}
use Rattle.status_rules.specs.declared.Status.TheVariants as status
use Rattle.plan_checks.proofs.OpenEnds.{deleted_bars, live_precedes}
use Rattle.plan_checks.specs.Additions.{IsOldWith}
use Rattle.plan_checks.proofs.ends.may_precede.Goals as goal

pub returns-in-Some : goal.returns-in-Some
returns-in-Some c = λ P s o told.
    let x = c.in-Some.status in
    let is = subst (λ z. MatchOption z (¬ IsOld P s o) (IsOldWith P s o)) c.in-Some.is told in (
      λ yes.
          let live : x ≢ status.Deleted = search rules in
          live_precedes P s o x is live,
      λ may. true_from_ne_false c.ne.result (λ no.
          let deleted : x ≡ status.Deleted = search rules in
          deleted_bars P s o x is deleted may),
    )
