use Rattle.std.proofs.Common.{◌≡◌, ◌++◌, drop}
use Rattle.std.specs.Prelude.{flat_map}
use Rattle.plan_reasons.specs.Texts.{line_if_of}
use Rattle.plan_reasons.proofs.telling.texts.put_holders_of.Given as goal

-- the lines so far, and those of the holders that are left, are all
abbrev pub invariant-loop-other : goal.invariant-loop-other
invariant-loop-other l = l.text.items ++ flat_map (line_if_of l.resource) (drop l.other-index l.holders) ≡ l.fn.text.items ++ flat_map (line_if_of l.resource) l.holders
