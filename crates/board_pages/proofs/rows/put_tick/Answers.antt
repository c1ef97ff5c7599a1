use Rattle.std.proofs.Common.{◌≡◌, ◌∙◌, ◌++◌, ◌∷◌, [], List, ℕ, ℤ, ◌<◌, ◌^◌, pos, true, cond, ap, sym, subst, arith, to_z, w64}
use Rattle.std.proofs.lemmas.Int.{ints}
use Rattle.std.proofs.lemmas.Bool.Decides.{nat_tests}
use Rattle.std.specs.Prelude.{OnOk, codes, decimal, nat_le}
use Rattle.html_pages.specs.Pieces.{Part, bytes, filled, minute_text}
use Rattle.board_pages.specs.Bars.{per_mille, tick_minute}
use Rattle.board_pages.proofs.rows.put_tick.Goals as goal

-- an hour by its place and its minute
abbrev tick_by : ℕ → ℤ → List Part
tick_by place z = filled (codes "<span style=\"--p:~\">~</span>") (decimal place ∷ minute_text z ∷ [])

pub returns : goal.returns
returns c =
    let x = c.args.told.now in
    let at = c.tick_minute-minute.ensures.minute in
    let place : c.per_mille-place.result ≡ per_mille x (tick_minute x c.args.count) = c.per_mille-place.ensures.place ∙ ap (per_mille x) at in
    let near = c.if-place-gt900.false in
    let shown : nat_le (per_mille x (tick_minute x c.args.count)) 900 ≡ true = subst (λ (p : ℕ). nat_le p 900 ≡ true) place (grind (arith, nat_tests)) in
    let bound : c.tick_minute-minute.result < 2 ^ 32 = c.tick_minute-minute.ensures.bound in
    let cast : to_z w64 c.tick_minute-minute.result ≡ pos c.tick_minute-minute.result = omega (arith, ints) in
    let told = simp cast at c.put.ensures in
    let parts = ap (λ b. cond b (tick_by (per_mille x (tick_minute x c.args.count)) (pos (tick_minute x c.args.count))) []) (sym shown) in
    subst (λ (parts : List Part). OnOk c.put.result (c.put.new.page.items ≡ c.args.page.now.items ++ bytes parts)) parts
    (subst (λ (parts : List Part). OnOk c.put.result (c.put.new.page.items ≡ c.args.page.now.items ++ bytes parts)) (λ i. tick_by (place i) (pos (at i))) told)
