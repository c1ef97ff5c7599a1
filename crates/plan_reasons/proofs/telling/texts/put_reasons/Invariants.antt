use Rattle.std.proofs.Common.{◌≡◌, ◌++◌, drop}
use Rattle.std.specs.Prelude.{flat_map}
use Rattle.plan_reasons.specs.Texts.{reason_lines}
use Rattle.plan_reasons.proofs.telling.texts.put_reasons.Given as goal

abbrev pub invariant-loop-reason : goal.invariant-loop-reason
invariant-loop-reason l = l.text.items ++ flat_map (reason_lines l.holders) (drop l.reason-index l.reasons) ≡ l.fn.text.items ++ flat_map (reason_lines l.holders) l.reasons
