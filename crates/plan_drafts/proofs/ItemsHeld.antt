-- Lists that hold an item are not empty, and lists that are not empty hold one.
use Rattle.std.proofs.Common.{arith, ◌<◌, List, [], ◌∷◌, length, Contains}
use Rattle.plan_drafts.proofs.Lists.{contains_head}

pub first_member : {X : Type 0} (xs : List X) → 0 < length xs → (x : X) × Contains xs x
first_member [] some = absurd (omega arith)
first_member (x ∷ xs) some = (x, contains_head x xs)

pub some_member : {X : Type 0} (xs : List X) (x : X) → Contains xs x → 0 < length xs
some_member xs x (i, h, e) = omega arith
