use Rattle.std.proofs.Common.{true≢false, sym}
use Rattle.record_faults.proofs.Warned.{not_is, false_is, third_is}
use Rattle.record_faults.proofs.warnings.is_beyond.Goals as goal

pub returns-then-not-starts_are_known_on : goal.returns-then-not-starts_are_known_on
returns-then-not-starts_are_known_on c = false_is (λ h. true≢false (sym (c.if-not-starts_are_known_on.ensures.1 h.0)))

pub returns-then-not-opens : goal.returns-then-not-opens
returns-then-not-opens c = false_is (λ h. true≢false (sym (c.if-not-opens.ensures.1 h.1)))

pub returns : goal.returns
returns c =
    third_is (c.starts_are_known_on.ensures.0 c.if-not-starts_are_known_on.false) (c.opens.ensures.0 c.if-not-opens.false) (not_is c.is_held.result c.is_held.ensures)
