use Rattle.std.proofs.Common.{sym, ◌∙◌, subst, true≢false}
use Rattle.plan_outlooks.specs.PathParts.{IsFirstIn}
use Rattle.plan_outlooks.specs.Paths.{IsAwaited}
use Rattle.plan_outlooks.proofs.CausesTold.{by_after}
use Rattle.plan_outlooks.proofs.Comparing.{other_by}
use Rattle.plan_outlooks.proofs.paths.cause_at.Goals as goal

pub returns-in-Some : goal.returns-in-Some
returns-in-Some c = λ F o lent at told.
    by_after F o c.args.moment c.args.lack.now (λ going. true≢false (sym (told.1 going) ∙ c.if-is_going.false))
    (λ e. other_by c.args.moment c.args.refs.now.from c.eq.result c.eq.ensures c.if-eq.false (e ∙ sym lent.from))
    c.in-Some.other (subst (IsFirstIn F (IsAwaited F o c.args.moment)) c.in-Some.is (c.awaited.ensures F o lent at))

pub returns-in-None : goal.returns-in-None
returns-in-None c = λ F o lent at told.
    c.cause_of.ensures F o lent at (λ going. true≢false (sym (told.1 going) ∙ c.if-is_going.false))
    (λ e. other_by c.args.moment c.args.refs.now.from c.eq.result c.eq.ensures c.if-eq.false (e ∙ sym lent.from))
    (subst (IsFirstIn F (IsAwaited F o c.args.moment)) c.in-None.is (c.awaited.ensures F o lent at))
