-- Fields that are put in the place of others.
use Rattle.std.proofs.Common.{◌≡◌, ◌∙◌, sym, ap, ap₂, arith, ℕ, ◌+◌, ◌<◌, List, [], ◌∷◌, ◌++◌, length, get_or, set, take, Vec, vec_items}
use Rattle.std.specs.declared.alloc.Global.{Global}
use Rattle.std.proofs.lemmas.List.{length-map, map-set, take_more, take_more_set}
use Rattle.plan_items.specs.Items.{fields_of}

-- with one more of them, as many fields as before and one are those of the row
pub put_more :
    (fields : List (Vec ℕ Global)) (row : List (List ℕ)) (i : ℕ) (v : Vec ℕ Global) → i < length row → length fields ≡ length row →
    take i (fields_of fields) ≡ take i row → v.items ≡ get_or row i [] → take (i + 1) (fields_of (set fields i v)) ≡ take (i + 1) row
put_more fields row i v within same so_far is =
    ap (take (i + 1)) (map-set vec_items fields i v)
    ∙ take_more_set (fields_of fields) i v.items (omega (arith, within, same, length-map fields vec_items))
    ∙ ap₂ (λ xs x. xs ++ x ∷ []) so_far is
    ∙ sym (take_more row i [] within)
