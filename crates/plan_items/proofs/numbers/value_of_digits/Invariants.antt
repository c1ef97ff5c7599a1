use Rattle.std.proofs.Common.{◌≡◌, ◌<◌, ◌^◌, drop}
use Rattle.std.specs.Str.Parse.{digits_value, digits_value_after}
use Rattle.plan_items.proofs.numbers.value_of_digits.Given as goal

-- the digits that are left go on from the value so far
abbrev pub invariant-loop-digit : goal.invariant-loop-digit
invariant-loop-digit l = (l.value < 2 ^ 32) × (digits_value 10 l.digits ≡ digits_value_after 10 l.value (drop l.digit-index l.digits))
