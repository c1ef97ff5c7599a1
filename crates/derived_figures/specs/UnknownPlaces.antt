-- Places that aren't among others.
use Rattle.std.specs.Prelude.{ℕ, Bool, false, not, nat_eq, ◌||◌, List, [], ◌∷◌, filter}

-- whether a place is among these
abbrev pub is_place_among : List ℕ → ℕ → Bool
is_place_among [] i = false
is_place_among (p ∷ places) i = nat_eq p i || is_place_among places i

-- those of these places that aren't among the known ones
abbrev pub unknown_places : List ℕ → List ℕ → List ℕ
unknown_places known places = filter (λ i. not (is_place_among known i)) places
