-- What is needed of a value that may not be there.
use Rattle.std.proofs.Common.{◌≡◌, refl, Option, Some, None, option_map}
use Rattle.std.proofs.lemmas.Option.{same_Some, none-some}

-- what is made of a value, where there is one, is made of one that is there
pub mapped : {A B : Type 0} (f : A → B) (x : Option A) (b : B) → option_map f x ≡ Some b → (a : A) × (x ≡ Some a) × (f a ≡ b)
mapped f None b e = absurd (none-some b e)
mapped f (Some a) b e = (a, refl, same_Some (f a) b e)
