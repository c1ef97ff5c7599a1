use Rattle.std.proofs.Common.{◌≡◌, ◌++◌, map, drop}
use Rattle.plan_reasons.specs.Texts.{line}
use Rattle.plan_reasons.proofs.telling.lines.put_line.Given as goal

-- what is put so far, and the line of the pieces that are left, are all
abbrev pub invariant-loop-piece : goal.invariant-loop-piece
invariant-loop-piece l = l.text.items ++ line (map (λ p. p.now) (drop l.piece-index l.pieces)) ≡ l.fn.text.items ++ line (map (λ p. p.now) l.pieces)
