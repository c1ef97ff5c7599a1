-- Whether an operation is in the plan, by what is found of it.
use Rattle.std.proofs.Common.{◌≡◌, ◌↔◌, refl, sym, ap, false, Option, Some, None, is_some, IsSome}
use Rattle.std.specs.FinMap.{contains_key, get}
use Rattle.plan_basics.specs.declared.keys.OpKey.{OpKey}
use Rattle.plan_model.specs.Contents.{Contents, IsInPlan, Operation}

-- what isn't there is none
none_there : (x : Option Operation) → ¬ ((op : Operation) × (x ≡ Some op) × Unit {0}) → is_some x ≡ false
none_there None absent = refl
none_there (Some op) absent = absurd (absent (op, refl, tt))

pub told_known : {V : Type 0} (P : Contents) (o : OpKey) (found : Option V) → (IsSome found ↔ IsInPlan P o) → is_some found ≡ contains_key P.operations o
told_known P o (Some v) told = let there = told.0 refl in sym (ap is_some there.1)
told_known P o None told = sym (none_there (get P.operations o) (λ there. let wrong = told.1 there in absurd cc))
