-- A refusal is known by its number.
use Rattle.std.proofs.Common.{◌≡◌, refl, sym, ◌∙◌, ap, arith, ℕ, zero, suc, List, [], ◌∷◌, Contains}
use Rattle.operation_graph.proofs.Telling.{Told, told_alike, told_each}
use Rattle.plan_basics.specs.declared.Refusal.{Refusal}
use Rattle.plan_basics.specs.declared.Refusal.TheVariants.{Past, MomentRange, NotLoaded, Loaded, UnknownOperation, UnknownOccurrence, UnknownWorkstation, UnknownResource, WrongStatus, WrongWorkstation, Held, TooEarly, Closed, NoServer, NoFixed, ResourceBusy, Running, Duplicate, Cycle, Limit, BadPlan, Old, Gap, Reused, Memory, Store, Reopen, Damaged}
use Rattle.plan_basics.specs.Refusals.{number_of}

-- in the order of their numbers
abbrev pub all_refusals : List Refusal
all_refusals = Past ∷ MomentRange ∷ NotLoaded ∷ Loaded ∷ UnknownOperation ∷ UnknownOccurrence ∷ UnknownWorkstation ∷ UnknownResource ∷ WrongStatus ∷ WrongWorkstation ∷ Held ∷ TooEarly ∷ Closed ∷ NoServer ∷ NoFixed ∷ ResourceBusy ∷ Running ∷ Duplicate ∷ Cycle ∷ Limit ∷ BadPlan ∷ Old ∷ Gap ∷ Reused ∷ Memory ∷ Store ∷ Reopen ∷ Damaged ∷ []

at : List Refusal → ℕ → Refusal
at [] n = Damaged
at (r ∷ rs) zero = r
at (r ∷ rs) (suc n) = at rs n

by_number : (r : Refusal) → at (Damaged ∷ all_refusals) (number_of r) ≡ r
unfolding at
by_number Past = refl
by_number MomentRange = refl
by_number NotLoaded = refl
by_number Loaded = refl
by_number UnknownOperation = refl
by_number UnknownOccurrence = refl
by_number UnknownWorkstation = refl
by_number UnknownResource = refl
by_number WrongStatus = refl
by_number WrongWorkstation = refl
by_number Held = refl
by_number TooEarly = refl
by_number Closed = refl
by_number NoServer = refl
by_number NoFixed = refl
by_number ResourceBusy = refl
by_number Running = refl
by_number Duplicate = refl
by_number Cycle = refl
by_number Limit = refl
by_number BadPlan = refl
by_number Old = refl
by_number Gap = refl
by_number Reused = refl
by_number Memory = refl
by_number Store = refl
by_number Reopen = refl
by_number Damaged = refl

pub same_number : (a b : Refusal) → number_of a ≡ number_of b → a ≡ b
same_number a b e = sym (by_number a) ∙ ap (at (Damaged ∷ all_refusals)) e ∙ by_number b

-- each of them is there
pub in_all : (r : Refusal) → Contains all_refusals r
in_all Past = (0, omega arith, refl)
in_all MomentRange = (1, omega arith, refl)
in_all NotLoaded = (2, omega arith, refl)
in_all Loaded = (3, omega arith, refl)
in_all UnknownOperation = (4, omega arith, refl)
in_all UnknownOccurrence = (5, omega arith, refl)
in_all UnknownWorkstation = (6, omega arith, refl)
in_all UnknownResource = (7, omega arith, refl)
in_all WrongStatus = (8, omega arith, refl)
in_all WrongWorkstation = (9, omega arith, refl)
in_all Held = (10, omega arith, refl)
in_all TooEarly = (11, omega arith, refl)
in_all Closed = (12, omega arith, refl)
in_all NoServer = (13, omega arith, refl)
in_all NoFixed = (14, omega arith, refl)
in_all ResourceBusy = (15, omega arith, refl)
in_all Running = (16, omega arith, refl)
in_all Duplicate = (17, omega arith, refl)
in_all Cycle = (18, omega arith, refl)
in_all Limit = (19, omega arith, refl)
in_all BadPlan = (20, omega arith, refl)
in_all Old = (21, omega arith, refl)
in_all Gap = (22, omega arith, refl)
in_all Reused = (23, omega arith, refl)
in_all Memory = (24, omega arith, refl)
in_all Store = (25, omega arith, refl)
in_all Reopen = (26, omega arith, refl)
in_all Damaged = (27, omega arith, refl)

pub told_refusals : (Q : Refusal → Type 0) → ((r : Refusal) → Told (Q r)) → Told ((r : Refusal) → Q r)
told_refusals Q each = told_alike {A = (r : Refusal) → Contains all_refusals r → Q r} (λ h r. h r (in_all r)) (λ h r has. h r) (told_each Q each all_refusals)
