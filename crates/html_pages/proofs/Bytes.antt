-- The bytes of pieces, one after the other; and what of them HTML takes for markup.
use Rattle.std.proofs.Common.{◌≡◌, ◌∙◌, inl, inr, refl, sym, ap, append_assoc, arith, ℕ, false, List, [], ◌∷◌, ◌++◌, cond}
use Rattle.std.proofs.lemmas.Bool.{cond_both}
use Rattle.std.proofs.lemmas.List.{map-append}
use Rattle.std.proofs.lemmas.List.Concat.{flat_map-append}
use Rattle.std.proofs.lemmas.List.Elements.{filter-append, recursion_from_All}
use Rattle.std.specs.List.{AllByRecursion}
use Rattle.std.specs.Prelude.{filter, flat_map}
use Rattle.plan_basics.specs.Names.{IsNameByte, IsResourceByte}
use Rattle.html_pages.specs.Laws.{MarkupStands, NamesStand, markup_of}
use Rattle.html_pages.specs.Pieces.{Markup, Part, Text, bytes, bytes_of, is_special, plain, plain_byte}

-- the bytes of pieces and further pieces are theirs, one after the other
pub bytes_append : (a b : List Part) → bytes (a ++ b) ≡ bytes a ++ bytes b
bytes_append = flat_map-append bytes_of

-- pieces that are put behind a page, and then further ones
pub behind : (page : List ℕ) {mid new : List ℕ} (a b : List Part) → mid ≡ page ++ bytes a → new ≡ mid ++ bytes b → new ≡ page ++ bytes (a ++ b)
behind page a b e f = f ∙ ap (λ t. t ++ bytes b) e ∙ append_assoc page (bytes a) (bytes b) ∙ ap (λ t. page ++ t) (sym (bytes_append a b))

-- texts that are put behind a page, one after the other
pub plain_behind : (page : List ℕ) {mid new : List ℕ} (a b : List ℕ) → mid ≡ page ++ plain a → new ≡ mid ++ plain b → new ≡ page ++ plain (a ++ b)
plain_behind page a b e f = f ∙ ap (λ t. t ++ plain b) e ∙ append_assoc page (plain a) (plain b) ∙ ap (λ t. page ++ t) (sym (map-append plain_byte a b))

-- ---- what HTML takes for markup
plain_is_not_special : (b : ℕ) → is_special (plain_byte b) ≡ false
plain_is_not_special b = cond_both (is_special b) 63 b (λ x. is_special x ≡ false) (λ _. refl) (λ e. e)

none_special : (t : List ℕ) → filter is_special (plain t) ≡ []
none_special [] = refl
none_special (b ∷ t) =
    ap (λ c. cond c (plain_byte b ∷ filter is_special (plain t)) (filter is_special (plain t))) (plain_is_not_special b) ∙ none_special t

pub markup_stands : MarkupStands
markup_stands [] = refl
markup_stands (Markup m ∷ parts) =
    filter-append is_special m (bytes parts) ∙ ap (λ t. filter is_special m ++ t) (markup_stands parts) ∙ sym (filter-append is_special m (flat_map markup_of parts))
markup_stands (Text t ∷ parts) =
    filter-append is_special (plain t) (bytes parts) ∙ ap (λ u. u ++ filter is_special (bytes parts)) (none_special t) ∙ markup_stands parts

-- ---- names
plain_name_byte : (b : ℕ) → IsNameByte b → plain_byte b ≡ b
plain_name_byte b h = cond_both (is_special b) 63 b (λ x. x ≡ b) (λ e. absurd (grind arith)) (λ _. refl)

plain_resource_byte : (b : ℕ) → IsResourceByte b → plain_byte b ≡ b
plain_resource_byte b h = cond_both (is_special b) 63 b (λ x. x ≡ b) (λ e. absurd (grind arith)) (λ _. refl)

stands : (P : ℕ → Type 0) → ((b : ℕ) → P b → plain_byte b ≡ b) → (t : List ℕ) → AllByRecursion P t → plain t ≡ t
stands P f [] h = refl
stands P f (b ∷ t) h = ap (λ c. c ∷ plain t) (f b h.0) ∙ ap (λ u. b ∷ u) (stands P f t h.1)

pub names_stand : NamesStand
names_stand n t (inl h) = stands IsNameByte plain_name_byte t (recursion_from_All IsNameByte t h.2)
names_stand n t (inr h) = stands IsResourceByte plain_resource_byte t (recursion_from_All IsResourceByte t h.2)
