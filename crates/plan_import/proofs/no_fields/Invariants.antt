use Rattle.std.proofs.Common.{◌≡◌, length}
use Rattle.plan_import.proofs.no_fields.Given as goal

abbrev pub invariant-loop : goal.invariant-loop
invariant-loop l = length l.fields.items ≡ l.counter
