-- The order in which reasons are listed.
use Rattle.std.specs.Prelude.{◌≡◌, ℕ, ◌+◌, ◌<◌}
use Rattle.std.specs.declared.cmp.Ordering.TheVariants.{Less}
use Rattle.plan_basics.specs.Keys.{name_cmp, operation_cmp}
use Rattle.special_resources.specs.Holdings.{holding_cmp}
use Rattle.plan_reasons.specs.declared.reasons.Reason.{Reason}
use Rattle.plan_reasons.specs.declared.reasons.Reason.TheVariants as reason
use Rattle.plan_reasons.specs.declared.reasons.Supply.{Supply}
use Rattle.plan_reasons.specs.declared.reasons.Supply.TheVariants as supply

-- servers, then R1, then R2
abbrev pub supply_place : Supply → ℕ
supply_place supply.Servers = 0
supply_place supply.R1 = 1
supply_place supply.R2 = 2

-- the kinds of reasons in the order of the lines that an operation has to meet
abbrev pub reason_place : Reason → ℕ
reason_place (reason.AtRest x) = 0
reason_place (reason.WaitsFor x) = 1
reason_place reason.Held = 2
reason_place (reason.TooEarly t) = 3
reason_place (reason.Closed w) = 4
reason_place (reason.ClosedUntil x) = 4
reason_place (reason.Lacks x) = 5 + supply_place x.supply
reason_place (reason.Unavailable r) = 8
reason_place (reason.HeldBy x) = 9
reason_place (reason.TooLittleLeft x) = 10

-- by kind; of one kind, by predecessor, by resource, or by resource and then holder
abbrev pub ComesBefore : Reason → Reason → Type 0
ComesBefore (reason.WaitsFor x) (reason.WaitsFor y) = operation_cmp x.op y.op ≡ Less
ComesBefore (reason.Unavailable r) (reason.Unavailable s) = name_cmp r s ≡ Less
ComesBefore (reason.HeldBy x) (reason.HeldBy y) = holding_cmp (x.resource, x.holder) (y.resource, y.holder) ≡ Less
ComesBefore (reason.TooLittleLeft x) (reason.TooLittleLeft y) = name_cmp x.resource y.resource ≡ Less
ComesBefore a b = reason_place a < reason_place b
