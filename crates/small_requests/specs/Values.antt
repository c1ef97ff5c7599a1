-- What lists have at some places.
use Rattle.std.specs.Prelude.{◌≡◌, ℕ, List, length, map, slice_get, Contains, Some}

-- the list has these values at their places, and all places that are meant are among these
pub record AreValuesAt {X : Type 0} (list : List X) (is_meant : ℕ → Type 0) (values : List (ℕ × X)) : Type 0 where
  pub there : (e : ℕ × X) → Contains values e → slice_get list e.0 ≡ Some e.1
  pub all : (i : ℕ) → is_meant i → Contains (map (λ e. e.0) values) i

-- to write these values into the one list makes the other of it, which has them, and the same at all other places
pub record LeadsTo {X : Type 0} (values : List (ℕ × X)) (from to : List X) : Type 0 where
  pub size : length from ≡ length to
  pub there : (e : ℕ × X) → Contains values e → slice_get to e.0 ≡ Some e.1
  pub elsewhere : (i : ℕ) → ¬ Contains (map (λ e. e.0) values) i → slice_get from i ≡ slice_get to i
