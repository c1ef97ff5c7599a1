-- What is found in a plan in which operations are named.
use Rattle.std.proofs.Common.{◌≡◌, refl, sym, ap, true≢false, Bool, true, false, ◌||◌, cond, List, [], ◌∷◌, ◌++◌, option_map}
use Rattle.std.specs.Ordering.{eq_by_cmp}
use Rattle.std.specs.FinMap.{get}
use Rattle.status_rules.specs.declared.Mark.TheVariants as mark
use Rattle.plan_basics.specs.Keys.{operation_cmp, operation_cmp-IsAntisymmetric}
use Rattle.plan_basics.specs.declared.keys.OpKey.{OpKey}
use Rattle.plan_basics.proofs.Members.{tied_is}
use Rattle.plan_model.specs.Contents.{Contents, Operation}
use Rattle.plan_model.specs.Ready.{named, with_mark}
use Rattle.plan_model.specs.Revise.{get-revise}
use Rattle.ready_list.specs.Choice.{is_among}

-- an operation with those of a list named
abbrev pub as_named : List OpKey → OpKey → Operation → Operation
as_named os o op = cond (is_among os o) (with_mark mark.Named op) op

pub get-named : (os : List OpKey) (P : Contents) (o : OpKey) → get (named os P).operations o ≡ option_map (as_named os o) (get P.operations o)
get-named os P o = get-revise operation_cmp-IsAntisymmetric _ P.operations o

-- named or not, an operation stays on its workstation
pub same_workstation : (b : Bool) (op : Operation) → (cond b (with_mark mark.Named op) op).workstation ≡ op.workstation
same_workstation true op = refl
same_workstation false op = refl

pub same_key : (o q : OpKey) → eq_by_cmp operation_cmp o q ≡ true → o ≡ q
same_key = tied_is operation_cmp-IsAntisymmetric

abbrev pub IsSplit : List OpKey → OpKey → Type 0
IsSplit os o = (before : List OpKey) × (after : List OpKey) × (os ≡ before ++ o ∷ after)

split_cases : (x : OpKey) (os : List OpKey) (o : OpKey) (b : Bool) → eq_by_cmp operation_cmp o x ≡ b → (b || is_among os o) ≡ true → (is_among os o ≡ true → IsSplit os o) → IsSplit (x ∷ os) o
split_cases x os o true is h rest = ([], os, ap (λ z. z ∷ os) (sym (same_key o x is)))
split_cases x os o false is h rest = let r = rest h in (x ∷ r.0, r.1, ap (λ zs. x ∷ zs) r.2)

-- a member is somewhere in the list
pub split_at : (os : List OpKey) (o : OpKey) → is_among os o ≡ true → IsSplit os o
split_at [] o e = absurd (true≢false (sym e))
split_at (x ∷ os) o e = split_cases x os o (eq_by_cmp operation_cmp o x) refl e (split_at os o)
