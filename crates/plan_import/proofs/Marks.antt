-- A text without the byte order mark at its front.
use Rattle.std.proofs.Common.{◌≡◌, ◌∙◌, ℕ, List, [], ◌∷◌, take, drop, Bool, true, false, sym, refl, nat_eq}
use Rattle.std.specs.Prelude.{◌&&◌, ◌==◌}
use Rattle.std.proofs.lemmas.Bool.{false≢true}
use Rattle.std.specs.Cmp.Lexicographic.{pointwise}
use Rattle.csv.specs.Reading.{strip_bom, is_bom}

-- the bytes of the mark
abbrev pub mark : List ℕ
mark = 0xEF ∷ 0xBB ∷ 0xBF ∷ []

none_more : (x : Bool) → (x && false) ≡ true → ⊥
none_more true e = cc e
none_more false e = cc e

none_more_twice : (x y : Bool) → (x && (y && false)) ≡ true → ⊥
none_more_twice true y e = none_more y e
none_more_twice false y e = cc e

whole : (x y z : Bool) → (x && (y && (z && true))) ≡ (x && y && z)
whole true true true = refl
whole true true false = refl
whole true false z = refl
whole false y z = refl

-- what is left after the mark
pub stripped : (text : List ℕ) → pointwise nat_eq (take 3 text) mark ≡ true → drop 3 text ≡ strip_bom text
unfolding strip_bom
stripped [] e = absurd (false≢true e)
stripped (a ∷ []) e = absurd (none_more (a == 0xEF) e)
stripped (a ∷ b ∷ []) e = absurd (none_more_twice (a == 0xEF) (b == 0xBB) e)
stripped (a ∷ b ∷ c ∷ rest) e =
    let there : is_bom a b c ≡ true = sym (whole (a == 0xEF) (b == 0xBB) (c == 0xBF)) ∙ e in
    rw there refl

-- a text without the mark stays
pub kept : (text : List ℕ) → pointwise nat_eq (take 3 text) mark ≡ false → text ≡ strip_bom text
unfolding strip_bom
kept [] e = refl
kept (a ∷ []) e = refl
kept (a ∷ b ∷ []) e = refl
kept (a ∷ b ∷ c ∷ rest) e =
    let gone : is_bom a b c ≡ false = sym (whole (a == 0xEF) (b == 0xBB) (c == 0xBF)) ∙ e in
    rw gone refl
