-- Moments in a column.
use Rattle.std.specs.Prelude.{ℕ, ℤ, pos, negsuc, List, replicate, cond, nat_lt}
use Rattle.plan_basics.specs.MomentTexts.{moment_text}

-- so many hyphens, where there is nothing to tell
abbrev pub hyphens : ℕ → List ℕ
hyphens width = replicate width 45

-- a latest start, or another minute: the text of its moment, or sixteen hyphens where it is none
abbrev pub latest_text : ℤ → List ℕ
latest_text (pos m) = cond (nat_lt m 52596000) (moment_text m) (replicate 16 45)
latest_text (negsuc m) = replicate 16 45
