-- What a test of two values shows of the rows that have them.
use Rattle.std.proofs.Common.{◌≡◌, ◌↔◌, sym, ap₂, ◌∙◌, ℕ, ◌<◌, Bool, IsTrue, List, length, get_or, slice_get, Some}
use Rattle.std.specs.Map.{keys_of}
use Rattle.std.proofs.lemmas.Option.{get_or_from_slice_get}
use Rattle.row_differences.specs.Rows.{HaveEqualValues}
use Rattle.row_differences.proofs.Merging.{key_within}
use Rattle.row_differences.proofs.Picked.{made_from}

pub equal_told : {K X : Type 0} (eq : X → X → Bool) (before after : List (K × X)) (i j : ℕ) (x y : K × X) (r : Bool) → i < length (keys_of before) → j < length (keys_of after) → r ≡ eq (get_or before i x).1 (get_or after j y).1
    → IsTrue r ↔ HaveEqualValues eq before after i j
equal_told {K} {X} eq before after i j x y r old new told = (
  λ is.
      let k = key_within (keys_of before) i old in
      let l = key_within (keys_of after) j new in
      let was = made_from (λ (row : K × X). row.0) before i k.0 k.1 in
      let here = made_from (λ (row : K × X). row.0) after j l.0 l.1 in
      (was.0, here.0, was.1, here.1, sym (read was.0 here.0 was.1 here.1) ∙ is),
  λ h. read h.0 h.1 h.2 h.3 ∙ h.4,
)
  where
    read : (u v : K × X) → slice_get before i ≡ Some u → slice_get after j ≡ Some v → r ≡ eq u.1 v.1
    read u v e f = told ∙ ap₂ (λ (a b : K × X). eq a.1 b.1) (get_or_from_slice_get before i u x e) (get_or_from_slice_get after j v y f)
