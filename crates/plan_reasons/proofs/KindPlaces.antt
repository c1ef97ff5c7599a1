-- Reasons of one kind, and what comes before what.
use Rattle.std.proofs.Common.{◌≡◌, refl, arith, ℕ, ◌+◌, ◌<◌}
use Rattle.plan_basics.specs.Keys.{Name}
use Rattle.plan_reasons.specs.Order.{ComesBefore, reason_place, supply_place}
use Rattle.plan_reasons.specs.declared.reasons.Closing.{Closing}
use Rattle.plan_reasons.specs.declared.reasons.Obstacle.{Obstacle}
use Rattle.plan_reasons.specs.declared.reasons.Reason.{Reason}
use Rattle.plan_reasons.specs.declared.reasons.Reason.TheVariants as reason
use Rattle.plan_reasons.specs.declared.reasons.Rest.{Rest}
use Rattle.plan_reasons.specs.declared.reasons.Scarcity.{Scarcity}
use Rattle.plan_reasons.specs.declared.reasons.Shortage.{Shortage}
use Rattle.plan_reasons.specs.declared.reasons.Supply.{Supply}
use Rattle.plan_reasons.specs.declared.reasons.Supply.TheVariants as supply
use Rattle.plan_reasons.specs.declared.reasons.Unsatisfied.{Unsatisfied}

pub supply_low : (s : Supply) → supply_place s < 3
supply_low supply.Servers = omega arith
supply_low supply.R1 = omega arith
supply_low supply.R2 = omega arith

pub same_supply : (a b : Supply) → supply_place a ≡ supply_place b → a ≡ b
same_supply supply.Servers supply.Servers e = refl
same_supply supply.R1 supply.R1 e = refl
same_supply supply.R2 supply.R2 e = refl
same_supply a b e = absurd (omega (arith, e))

-- there are eleven kinds
pub kind_low : (r : Reason) → reason_place r < 11
kind_low (reason.Lacks x) = omega (arith, supply_low x.supply)
kind_low r = omega arith

-- what is of an earlier kind comes before
pub before_by_kind : (a b : Reason) → reason_place a < reason_place b → ComesBefore a b
before_by_kind (reason.WaitsFor x) (reason.WaitsFor y) lt = absurd (omega (arith, lt))
before_by_kind (reason.Unavailable r) (reason.Unavailable s) lt = absurd (omega (arith, lt))
before_by_kind (reason.HeldBy x) (reason.HeldBy y) lt = absurd (omega (arith, lt))
before_by_kind (reason.TooLittleLeft x) (reason.TooLittleLeft y) lt = absurd (omega (arith, lt))
before_by_kind a b lt = lt

-- what is so of the reasons of a kind is so of each reason that has its place
module _ (Q : Reason → Type 0) where
  pub only_rest : ((x : Rest) → Q (reason.AtRest x)) → (r : Reason) → reason_place r ≡ 0 → Q r
  only_rest f (reason.AtRest x) e = f x
  only_rest f r e = absurd (omega (arith, e))

  pub only_waits : ((x : Unsatisfied) → Q (reason.WaitsFor x)) → (r : Reason) → reason_place r ≡ 1 → Q r
  only_waits f (reason.WaitsFor x) e = f x
  only_waits f r e = absurd (omega (arith, e))

  pub only_held : Q reason.Held → (r : Reason) → reason_place r ≡ 2 → Q r
  only_held f reason.Held e = f
  only_held f r e = absurd (omega (arith, e))

  pub only_early : ((t : ℕ) → Q (reason.TooEarly t)) → (r : Reason) → reason_place r ≡ 3 → Q r
  only_early f (reason.TooEarly t) e = f t
  only_early f r e = absurd (omega (arith, e))

  pub only_closed : ((w : Name) → Q (reason.Closed w)) → ((x : Closing) → Q (reason.ClosedUntil x)) → (r : Reason) → reason_place r ≡ 4 → Q r
  only_closed f g (reason.Closed w) e = f w
  only_closed f g (reason.ClosedUntil x) e = g x
  only_closed f g r e = absurd (omega (arith, e))

  pub only_lacks : (s : Supply) → ((x : Shortage) → x.supply ≡ s → Q (reason.Lacks x)) → (r : Reason) → reason_place r ≡ 5 + supply_place s → Q r
  only_lacks s f (reason.Lacks x) e = f x (same_supply x.supply s (omega (arith, e)))
  only_lacks s f r e = absurd (omega (arith, e, supply_low s))

  pub only_unavailable : ((name : Name) → Q (reason.Unavailable name)) → (r : Reason) → reason_place r ≡ 8 → Q r
  only_unavailable f (reason.Unavailable name) e = f name
  only_unavailable f (reason.Lacks x) e = absurd (omega (arith, e, supply_low x.supply))
  only_unavailable f r e = absurd (omega (arith, e))

  pub only_held_by : ((x : Obstacle) → Q (reason.HeldBy x)) → (r : Reason) → reason_place r ≡ 9 → Q r
  only_held_by f (reason.HeldBy x) e = f x
  only_held_by f (reason.Lacks x) e = absurd (omega (arith, e, supply_low x.supply))
  only_held_by f r e = absurd (omega (arith, e))

  pub only_too_little : ((x : Scarcity) → Q (reason.TooLittleLeft x)) → (r : Reason) → reason_place r ≡ 10 → Q r
  only_too_little f (reason.TooLittleLeft x) e = f x
  only_too_little f (reason.Lacks x) e = absurd (omega (arith, e, supply_low x.supply))
  only_too_little f r e = absurd (omega (arith, e))
