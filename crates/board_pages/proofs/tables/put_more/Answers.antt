use Rattle.std.proofs.Common.{◌≡◌, refl, arith, ℕ, suc, zero, ◌<◌, [], ◌∷◌}
use Rattle.std.specs.Prelude.{codes, decimal}
use Rattle.html_pages.specs.Pieces.{filled}
use Rattle.board_pages.specs.Tables.{more_parts}
use Rattle.board_pages.proofs.tables.put_more.Goals as goal

-- where there are some
some_more : (n : ℕ) → 0 < n → more_parts n ≡ filled (codes "<tr><td colspan=\"7\">and ~ more</td></tr>\n") (decimal n ∷ [])
some_more zero h = absurd (omega (arith, h))
some_more (suc n) h = refl

pub returns : goal.returns
returns c =
    let some : 0 < c.args.count = omega arith in
    rw (some_more c.args.count some) c.put.ensures
