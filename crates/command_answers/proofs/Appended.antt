-- What is appended line by line.
use Rattle.std.proofs.Common.{◌≡◌, ℕ, ◌+◌, ◌<◌, List, [], ◌++◌, length, take, get_or, Option}
use Rattle.std.specs.Prelude.{flat_map}
use Rattle.std.specs.Io.KnownBytes.{Appends}
use Rattle.std.proofs.KnownBytes.{Appends-trans}
use Rattle.std.proofs.lemmas.List.{flat_map_more, take_more}

-- the lines of some items were appended, and then that of the next one
pub appends_more : {X : Type 0} (f : X → List ℕ) (xs : List X) (i : ℕ) (d x : X) (a b c : Option (List ℕ))
    → i < length xs → x ≡ get_or xs i d → Appends a b (flat_map f (take i xs)) → Appends b c (f x) → Appends a c (flat_map f (take (i + 1) xs))
appends_more f xs i d x a b c below is before now =
    let joined : Appends a c (flat_map f (take i xs) ++ f x) = Appends-trans a b c (flat_map f (take i xs)) (f x) before now in
    let same : flat_map f (take i xs) ++ f x ≡ flat_map f (take (i + 1) xs) = rw (take_more xs i d below, ← is) (flat_map_more f [] (take i xs) x) in
    rw (← same) joined
