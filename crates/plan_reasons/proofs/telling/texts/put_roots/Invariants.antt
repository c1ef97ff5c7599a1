use Rattle.std.proofs.Common.{◌≡◌, ◌++◌, drop}
use Rattle.std.specs.Prelude.{flat_map}
use Rattle.plan_reasons.specs.Texts.{root_line}
use Rattle.plan_reasons.proofs.telling.texts.put_roots.Given as goal

abbrev pub invariant-loop-root : goal.invariant-loop-root
invariant-loop-root l = l.text.items ++ flat_map root_line (drop l.root-index l.roots) ≡ l.fn.text.items ++ flat_map root_line l.roots
