-- How a latest start is shown.
use Rattle.std.proofs.Common.{◌≡◌, ℕ, ℤ, pos, negsuc, List, inl, inr, replicate, nat_lt, arith, sym, ap, ◌∙◌, refl}
use Rattle.std.proofs.lemmas.Bool.{cond_both, ltb-true, ltb-false}
use Rattle.plan_basics.specs.Minutes.{IsMoment, IsShownAs}
use Rattle.plan_basics.specs.MomentTexts.{moment_text}
use Rattle.plan_basics.proofs.MomentTexts.{moment_text_is}
use Rattle.report_lines.specs.Moments.{latest_text}

-- a minute's text is that of a latest start
pub latest_shown : (z : ℤ) (t : List ℕ) → IsShownAs z t → t ≡ latest_text z
latest_shown (pos m) t (inl (n, e, told)) =
    let same : m ≡ n = cc in
    let range : IsMoment m = omega (arith, told.0) in
    cond_both (nat_lt m 52596000) (moment_text m) (replicate 16 45) (λ u. t ≡ u)
    (λ test. moment_text_is t n told ∙ ap moment_text (sym same))
    (λ test. absurd (omega (arith, ltb-false m 52596000 test)))
latest_shown (pos m) t (inr (none, e)) =
    let range : ¬ IsMoment m = none m refl in
    cond_both (nat_lt m 52596000) (moment_text m) (replicate 16 45) (λ u. t ≡ u)
    (λ test. absurd (range (ltb-true m 52596000 test)))
    (λ test. e)
latest_shown (negsuc m) t (inl (n, e, told)) = absurd cc
latest_shown (negsuc m) t (inr (none, e)) = e
