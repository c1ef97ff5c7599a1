-- Texts that are taken line by line.
use Rattle.std.proofs.Common.{ℕ, ◌<◌, List, [], ◌∷◌, length, length-drop, refl, arith}
use Rattle.command_answers.specs.Lines.{IsFirstLine}

-- what comes after a first line is shorter
pub shorter : (text first rest : List ℕ) → IsFirstLine text first rest → length rest < length text
shorter [] first rest (some, cut, is) = absurd (some refl)
shorter (b ∷ text) first rest (some, cut, is) = rw (is, length-drop) (omega arith)
