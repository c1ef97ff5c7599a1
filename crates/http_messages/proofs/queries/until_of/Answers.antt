use Rattle.std.proofs.Common.{◌≡◌, List, ℕ, subst, sym, false, true}
use Rattle.plan_basics.specs.Minutes.{IsMomentText}
use Rattle.http_messages.proofs.queries.until_of.Goals as goal

pub returns : goal.returns
returns c = (
  c.in_ok-text.text.items,
  (c.in-Some.rest.now, c.in-Some.ensures.0, c.in-Some.ensures.1, c.in_ok-text.ensures),
  λ m is.
      let wrong : false ≡ true = c.in-None.ensures.some.1 (m, subst (λ (text : List ℕ). IsMomentText text m) (sym c.deref.ensures.value) is) in absurd cc,
)
