-- Lists of values of which none has a float.
use Rattle.std.proofs.Common.{◌≡◌, List, [], ◌∷◌, map, false, refl}
use Rattle.plan_records.specs.Answer.{Answer, accepted, refused}
use Rattle.request_json.specs.Replies.{key_data, answer_data}
use Rattle.serde_json.specs.Data.{Data}
use Rattle.serde_json.specs.View.{items_of}
use Rattle.serde_json.specs.Written.{has_float, items_have_float}

-- a list of such values
pub no_float : {A : Type 0} (f : A → Data) → ((x : A) → has_float (f x) ≡ false) → (xs : List A) → items_have_float (items_of (map f xs)) ≡ false
no_float f h [] = refl
no_float f h (x ∷ xs) = rw (h x) (no_float f h xs)

-- no answer has a float
pub answer_written : (a : Answer) → has_float (answer_data a) ≡ false
answer_written (accepted named) = rw (no_float key_data (λ key. refl) named) refl
answer_written (refused r) = refl
