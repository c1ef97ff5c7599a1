use Rattle.std.proofs.Common.{◌≡◌, ℕ, ◌==◌, refl, length, take, Bool, true, false, cond, Some, None, rules, tests, sym, ◌∙◌, ap, ltb, arith}
use Rattle.std.specs.List.{position_or_len}
use Rattle.std.proofs.lemmas.Grind.{common_steps}
use Rattle.std.proofs.lemmas.Iterator.{YieldsList-from_slice}
use Rattle.std.proofs.lemmas.Iterator.Search.{position_from_yields_List}
use Rattle.http_messages.proofs.bytes.before.Goals as goal

-- the place where something stands, if it stands anywhere
place : (n m e : ℕ) → cond (ltb n m) (Some n) None ≡ Some e → n ≡ e
place n m e h = by (ltb n m) h
  where
    by : (v : Bool) → cond v (Some n) None ≡ Some e → n ≡ e
    by true g = cc
    by false g = absurd (cc)

no_place : (n m : ℕ) → cond (ltb n m) (Some n) None ≡ None → ltb n m ≡ false
no_place n m h = by (ltb n m) h
  where
    by : (v : Bool) → cond v (Some n) None ≡ None → v ≡ false
    by true g = absurd (cc)
    by false g = refl

pub returns-in-Some : goal.returns-in-Some
returns-in-Some c =
    let text = c.args.text.now in
    let found : c.position.result ≡ cond (ltb (position_or_len (λ b. b == c.args.end) text) (length text)) (Some (position_or_len (λ b. b == c.args.end) text)) None =
    position_from_yields_List (λ b. b == c.args.end) _ _ c.position.result c.position.ensures.ran (YieldsList-from_slice _ c.iter.ensures.rest) (λ x b q k. search (rules, tests)) in
    ap (λ n. take n text) (sym (place (position_or_len (λ b. b == c.args.end) text) (length text) c.in-Some.at (sym found ∙ c.in-Some.is)))

pub returns-in-None : goal.returns-in-None
returns-in-None c =
    let text = c.args.text.now in
    let found : c.position.result ≡ cond (ltb (position_or_len (λ b. b == c.args.end) text) (length text)) (Some (position_or_len (λ b. b == c.args.end) text)) None =
    position_from_yields_List (λ b. b == c.args.end) _ _ c.position.result c.position.ensures.ran (YieldsList-from_slice _ c.iter.ensures.rest) (λ x b q k. search (rules, tests)) in
    let past = no_place (position_or_len (λ b. b == c.args.end) text) (length text) (sym found ∙ c.in-None.is) in
    grind (arith, common_steps)
