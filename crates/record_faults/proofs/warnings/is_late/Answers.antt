use Rattle.std.proofs.Common.{true≢false, sym, ◌∙◌}
use Rattle.record_faults.proofs.Warned.{false_is, never_late, late_at_start, late_at_arrival}
use Rattle.record_faults.proofs.warnings.is_late.Goals as goal

pub returns-in_default : goal.returns-in_default
returns-in_default c = false_is (never_late c.args.openings.now.said.items c.args.operation.now c.in_default.ensures)

pub returns-then-goes_past : goal.returns-then-goes_past
returns-then-goes_past c = late_at_start c.args.openings.now.said.items c.args.operation.now c.in-Some.deadline c.in-Some.ensures (c.goes_past.ensures.0 c.if-goes_past.true)

pub returns : goal.returns
returns c =
    late_at_arrival c.args.openings.now.said.items c.args.operation.now c.in-Some.deadline c.in-Some.ensures (λ h. true≢false (sym (c.goes_past.ensures.1 h) ∙ c.if-goes_past.false)) c.goes_past-2.result c.goes_past-2.ensures
