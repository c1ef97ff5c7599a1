-- How a not-before is shown.
use Rattle.std.proofs.Common.{◌≡◌, refl, ℕ, zero, suc, ◌<◌, arith}
use Rattle.plan_basics.specs.MomentTexts.{moment_text}
use Rattle.report_lines.specs.Moments.{hyphens}
use Rattle.plan_shows.specs.Columns.{not_before_text}

pub first_minute : (m : ℕ) → m ≡ 0 → hyphens 16 ≡ not_before_text m
first_minute zero first = refl
first_minute (suc m) first = absurd (omega arith)

pub later_minute : (m : ℕ) → 0 < m → moment_text m ≡ not_before_text m
later_minute zero later = absurd (omega arith)
later_minute (suc m) later = refl
