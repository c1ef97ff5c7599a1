-- Fields that are all empty.
use Rattle.std.proofs.Common.{◌≡◌, ℕ, zero, suc, ◌-◌, List, [], ◌∷◌, length, take, drop, map, replicate, Vec, Global, refl, ap, sym, ◌∙◌}
use Rattle.std.specs.List.{All}
use Rattle.std.proofs.lemmas.List.{take_rest, drop-map, length-drop}
use Rattle.std.proofs.lemmas.List.Elements.{All-nil, All-cons, All-head, All-tail}
use Rattle.std.specs.Prelude.{vec_items}
use Rattle.plan_items.specs.Items.{fields_of}

abbrev pub IsEmpty : Vec ℕ Global → Type 0
IsEmpty field = field.items ≡ []

to_empty : (fields : List (Vec ℕ Global)) → All IsEmpty fields → map vec_items fields ≡ replicate (length fields) []
to_empty [] h = refl
to_empty (field ∷ rest) h = let first = All-head IsEmpty field rest h in let others = to_empty rest (All-tail IsEmpty field rest h) in cc

from_empty : (fields : List (Vec ℕ Global)) (n : ℕ) → map vec_items fields ≡ replicate n [] → All IsEmpty fields
from_empty [] n e = All-nil IsEmpty
from_empty (field ∷ rest) zero e = absurd (cc)
from_empty (field ∷ rest) (suc n) e = All-cons IsEmpty field rest (cc) (from_empty rest n (cc))

-- the fields from an index on are all empty
pub empty_from : (fields : List (Vec ℕ Global)) (n : ℕ) → length fields ≡ 10 → All IsEmpty (take (length fields - n) (drop n fields)) → drop n (fields_of fields) ≡ replicate (10 - n) []
empty_from fields n ten h =
    let rest : List (Vec ℕ Global) = drop n fields in
    let size : length rest ≡ 10 - n = rw (length-drop n fields, ten) in
    drop-map vec_items n fields ∙ (to_empty rest (rw take_rest at h) ∙ ap (λ (k : ℕ). replicate k []) size)

pub all_empty : (fields : List (Vec ℕ Global)) (n : ℕ) → drop n (fields_of fields) ≡ replicate (10 - n) [] → All IsEmpty (take (length fields - n) (drop n fields))
all_empty fields n e = rw take_rest (from_empty (drop n fields) (10 - n) (sym (drop-map vec_items n fields) ∙ e))
