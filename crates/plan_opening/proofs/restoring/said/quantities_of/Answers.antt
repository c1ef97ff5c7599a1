use Rattle.std.proofs.Common.{◌≢◌, rules, subst, List, ℕ}
use Rattle.std.specs.List.{AllPairs}
use Rattle.std.specs.Prelude.{IfOk, MatchOption}
use Rattle.plan_basics.specs.Keys.{Name, name_cmp}
use Rattle.plan_drafts.specs.KeyOrder.{AreInKeyOrder}
use Rattle.plan_opening.proofs.restoring.said.quantities_of.Goals as goal

pub returns : goal.returns
returns c =
    subst (λ (said : List (Name × ℕ)). IfOk c.in_key_order.result (λ found. MatchOption found (¬ AllPairs (λ x y. x.0 ≢ y.0) said) (λ v. AreInKeyOrder name_cmp (λ x. x.0) said v.items))) c.in_ok-all_quantities.ensures
    (c.in_key_order.ensures (λ x. x.0) (λ x r h. search rules))
