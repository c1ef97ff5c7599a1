-- Connections that wait.
use Rattle.std.specs.Prelude.{ℕ, ◌==◌, List, Option}
use Rattle.std.specs.List.{position}

-- the place of the first that waits under this token, if one does
abbrev pub place_under : {X : Type 0} → ℕ → List (ℕ × X) → Option ℕ
place_under {X = X} token waiting = position (λ (w : ℕ × X). w.0 == token) waiting
