use Rattle.std.proofs.Common.{◌≡◌, refl, arith, ℕ, suc, zero, ◌<◌, [], ◌∷◌}
use Rattle.std.specs.Prelude.{codes, decimal}
use Rattle.html_pages.specs.Pieces.{filled}
use Rattle.board_pages.specs.Pages.{unknown_parts}
use Rattle.board_pages.proofs.pages.put_unknown.Goals as goal

-- where there are some
some_more : (n : ℕ) → 0 < n → unknown_parts n ≡ filled (codes ". Going since an unknown moment: <b>~</b>, each taken to begin at the clock and to last its whole duration") (decimal n ∷ [])
some_more zero h = absurd (omega (arith, h))
some_more (suc n) h = refl

pub returns : goal.returns
returns c =
    let some : 0 < c.args.count = omega arith in
    rw (some_more c.args.count some) c.put.ensures
