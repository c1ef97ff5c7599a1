use Rattle.std.proofs.Common.{◌≡◌, ℕ, ◌+◌, ◌-◌, ◌≤◌, ◌==◌, List, [], ◌∷◌, refl, length, take, drop, length-drop, Bool, true, false, cond, Some, None, rules, tests, sym, ◌∙◌, ap, ltb, arith}
use Rattle.std.specs.List.{position_or_len}
use Rattle.std.proofs.lemmas.List.{drop_all, take_all}
use Rattle.std.proofs.lemmas.Iterator.{YieldsList-from_slice}
use Rattle.std.proofs.lemmas.Iterator.Search.{position_from_yields_List}
use Rattle.command_answers.specs.Lines.{is_line_end}
use Rattle.command_answers.proofs.lines.first_line.Goals as goal

-- the place where something stands, if it stands anywhere
place : (n m e : ℕ) → cond (ltb n m) (Some n) None ≡ Some e → n ≡ e
place n m e h = by (ltb n m) h
  where
    by : (v : Bool) → cond v (Some n) None ≡ Some e → n ≡ e
    by true g = cc
    by false g = absurd (cc)

no_place : (n m : ℕ) → cond (ltb n m) (Some n) None ≡ None → ltb n m ≡ false
no_place n m h = by (ltb n m) h
  where
    by : (v : Bool) → cond v (Some n) None ≡ None → v ≡ false
    by true g = absurd (cc)
    by false g = refl

-- a text that has a length isn't empty
not_empty : (text : List ℕ) → false ≡ (length text == 0) → text ≡ [] → ⊥
not_empty [] h e = absurd (cc)
not_empty (b ∷ text) h e = absurd (cc)

-- what is left of a text is all of it
all_left : (n m : ℕ) (text : List ℕ) → n ≡ m → take (length text - n) (drop n text) ≡ drop m text
all_left n m text is = rw (← is) (take_all (length text - n) (drop n text) (rw length-drop (omega arith)))

at_most : (n m : ℕ) → ltb n m ≡ false → m ≤ n
at_most n m h = search (rules, tests)

pub returns-in-Some-clause-first : goal.returns-in-Some-clause-first
returns-in-Some-clause-first c =
    let text = c.args.text.now in
    let found : c.position.result ≡ cond (ltb (position_or_len is_line_end text) (length text)) (Some (position_or_len is_line_end text)) None =
    position_from_yields_List is_line_end _ _ c.position.result c.position.ensures.ran (YieldsList-from_slice _ c.iter.ensures.rest) (λ x b q k. search (rules, tests)) in
    let at : position_or_len is_line_end text ≡ c.in-Some.end = place (position_or_len is_line_end text) (length text) c.in-Some.end (sym found ∙ c.in-Some.is) in
    (not_empty text c.if-is_empty.ensures, ap (λ n. take n text) (sym at), all_left (c.in-Some.end + 1) (position_or_len is_line_end text + 1) text (ap (λ n. n + 1) (sym at)))

pub returns-in-None-clause-first : goal.returns-in-None-clause-first
returns-in-None-clause-first c =
    let text = c.args.text.now in
    let found : c.position.result ≡ cond (ltb (position_or_len is_line_end text) (length text)) (Some (position_or_len is_line_end text)) None =
    position_from_yields_List is_line_end _ _ c.position.result c.position.ensures.ran (YieldsList-from_slice _ c.iter.ensures.rest) (λ x b q k. search (rules, tests)) in
    let past : length text ≤ position_or_len is_line_end text = at_most (position_or_len is_line_end text) (length text) (no_place (position_or_len is_line_end text) (length text) (sym found ∙ c.in-None.is)) in (
      not_empty text c.if-is_empty.ensures,
      sym (take_all (position_or_len is_line_end text) text past),
      all_left (length text) (length text) text refl ∙ drop_all (length text) text (omega arith) ∙ sym (drop_all (position_or_len is_line_end text + 1) text (omega arith)),
    )
