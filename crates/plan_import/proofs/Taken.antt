-- The fields of a record that are read so far.
use Rattle.std.proofs.Common.{◌≡◌, ℕ, zero, suc, ◌+◌, List, [], ◌∷◌, ◌++◌, take, Some, None, refl, ap, arith}
use Rattle.csv.specs.Records.{field_at}

-- one field more
pub more_taken : (fields : List (List ℕ)) (i : ℕ) (field : List ℕ) → field_at fields i ≡ Some field → take i fields ++ field ∷ [] ≡ take (i + 1) fields
unfolding field_at
more_taken [] i field e = cc e
more_taken (f ∷ fs) zero field e = cc e
more_taken (f ∷ fs) (suc i) field e =
    let next : suc i + 1 ≡ suc (i + 1) = omega arith in
    rw next (ap (λ (t : List (List ℕ)). f ∷ t) (more_taken fs i field e))

-- no field more
pub all_taken : (fields : List (List ℕ)) (i : ℕ) → field_at fields i ≡ None → take i fields ≡ fields
unfolding field_at
all_taken [] zero e = refl
all_taken [] (suc i) e = refl
all_taken (f ∷ fs) zero e = cc e
all_taken (f ∷ fs) (suc i) e = ap (λ (t : List (List ℕ)). f ∷ t) (all_taken fs i e)
