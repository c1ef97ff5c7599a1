-- The workstation of an operation of a valid plan is found.
use Rattle.std.proofs.Common.{◌≡◌, refl, sym, ap, ◌∙◌, subst, ℕ, true, true≢false, List, slice_get, Option, Some, None, is_some}
use Rattle.std.specs.Prelude.{IsSome, IsNone}
use Rattle.std.specs.FinMap.{contains_key, get}
use Rattle.plan_basics.specs.Keys.{Name}
use Rattle.plan_basics.specs.declared.keys.OpKey.{OpKey}
use Rattle.plan_model.specs.Contents.{Contents, Operation}
use Rattle.plan_model.specs.Valid.{IsValid}
use Rattle.plan_model.specs.workstations.specs.Workstations.{Workstation}

-- what is found where there is one
pub there : {A X : Type 0} (found : Option A) (x : Option X) → (IsNone found → x ≡ None) → is_some x ≡ true → IsSome found
there None x absent known = absurd (true≢false (sym known ∙ ap is_some (absent refl)))
there (Some a) x absent known = refl

-- what stands at an index under a name stands there under a name that is this one
pub own_place : (rows : List (Name × Workstation)) (place : ℕ) (a b : Name) → a ≡ b → (ws : Workstation) × (slice_get rows place ≡ Some (a, ws)) → (ws : Workstation) × (slice_get rows place ≡ Some (b, ws))
own_place rows place a b e at = (at.0, at.1 ∙ ap (λ n. Some (n, at.0)) e)

-- the operation is as it is seen in code
pub workplace_known : (P : Contents) → IsValid P → {op seen : Operation} → seen ≡ op → (o : OpKey) × (get P.operations o ≡ Some op) → contains_key P.workstations seen.workstation ≡ true
workplace_known P valid same on = subst (λ (x : Operation). contains_key P.workstations x.workstation ≡ true) (sym same) (valid.have_workstations on.0 _ on.1)

pub workplace_found : (P : Contents) → IsValid P → {op seen : Operation} → seen ≡ op → (o : OpKey) × (get P.operations o ≡ Some op) → {A : Type 0} (found : Option A) → (IsNone found → get P.workstations seen.workstation ≡ None) → IsSome found
workplace_found P valid {seen = seen} same on found absent = there found (get P.workstations seen.workstation) absent (workplace_known P valid same on)
