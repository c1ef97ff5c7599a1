use Rattle.std.proofs.Common.{◌≡◌, ◌∙◌, ap, None, Some, subst}
use Rattle.forecasting.specs.Known.{AreKeptOf, fresh_at}
use Rattle.forecasting.proofs.Kept.{known_of_none, starts_followed}
use Rattle.forecasting.proofs.known.KnownStarts.follow.Goals as goal

pub returns-clause-starts : goal.returns-clause-starts
returns-clause-starts c = λ P was.
    let old = c.args.self.now in
    let new = c.in_ok-next.next in
    let fresh : c.fresh_at.result ≡ Some c.args.plan.now.plan.clock = c.fresh_at.ensures ∙ ap (λ b. fresh_at b c.clock.result) was.follows ∙ ap Some c.clock.ensures.value in
    starts_followed P c.args.plan.now.plan old new was c.in_ok-next.ensures.going (subst (λ z. AreKeptOf old z new) fresh c.in_ok-next.ensures.kept)

pub returns-clause-unknown : goal.returns-clause-unknown
returns-clause-unknown c = λ follows none.
    let old = c.args.self.now in
    let new = c.in_ok-next.next in
    let fresh : c.fresh_at.result ≡ None = c.fresh_at.ensures ∙ ap (λ b. fresh_at b c.clock.result) follows in
    known_of_none old new none (subst (λ z. AreKeptOf old z new) fresh c.in_ok-next.ensures.kept)
