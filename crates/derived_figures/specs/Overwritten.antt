-- A list into which values are written.
use Rattle.std.specs.Prelude.{ℕ, List, [], ◌∷◌, slice_set}

-- a list once each of these values is written at its place, the first one first
abbrev pub overwritten : {X : Type 0} → List (ℕ × X) → List X → List X
overwritten [] list = list
overwritten (e ∷ values) list = overwritten values (slice_set list e.0 e.1)
