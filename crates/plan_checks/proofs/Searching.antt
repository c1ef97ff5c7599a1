-- Rows of which none has been found so far, and what rows say of the keys that are in them.
use Rattle.std.proofs.Common.{◌≡◌, ◌⊎◌, inl, inr, sym, ap, subst, ◌∙◌, arith, ℕ, ◌+◌, ◌<◌, true, false, true≢false, List, slice_get, Option, Some, None, is_some, MatchOption, IfSome, Result, Ok, Err, IfErr, OnOk}
use Rattle.std.proofs.lemmas.Bool.{cases_eq}
use Rattle.std.specs.Cmp.{IsTotalOrder}
use Rattle.std.specs.FinMap.{IsAntisymmetric, contains_key, from_entries, get}
use Rattle.std.specs.List.Sorted.{IsStrictlySortedBy}
use Rattle.std.specs.Map.{keys_of}
use Rattle.std.specs.declared.cmp.Ordering.{Ordering}
use Rattle.plan_basics.specs.declared.Refusal.{Refusal}
use Rattle.plan_basics.specs.declared.Refusal.TheVariants as refusal
use Rattle.plan_basics.specs.declared.keys.OpKey.{OpKey}
use Rattle.plan_model.specs.Contents.{Contents, Operation}
use Rattle.plan_model.specs.Status.{IsUnderWay}
use Rattle.plan_drafts.proofs.RowPlaces.{get_at}
use Rattle.plan_drafts.proofs.Tables.{some_is}

-- this is so of no element before an index
abbrev pub NoneBefore : {X : Type 0} → List X → (X → Type 0) → ℕ → Type 0
NoneBefore {X} xs Q i = (k : ℕ) (x : X) → k < i → slice_get xs k ≡ Some x → ¬ Q x

pub none_more : {X : Type 0} (xs : List X) (Q : X → Type 0) (i : ℕ) → NoneBefore xs Q i → ((x : X) → slice_get xs i ≡ Some x → ¬ Q x) → NoneBefore xs Q (i + 1)
none_more xs Q i so_far here k x lt at = elim (cases_eq k i) [
  | inl e ↦ here x (ap (slice_get xs) (sym e) ∙ at)
  | inr other ↦ so_far k x (omega (arith, lt, other)) at
]

-- a row's key is in the map that the rows are
pub row_known : {K X : Type 0} {R : K → K → Ordering} → IsTotalOrder R → IsAntisymmetric R → (rows : List (K × X)) → IsStrictlySortedBy R (keys_of rows) → (i : ℕ) (k : K) (v : X) → slice_get rows i ≡ Some (k, v)
    → contains_key (from_entries {R = R} rows) k ≡ true
row_known {R} total same rows sorted i k v at = some_is (get (from_entries {R = R} rows) k) v (get_at R total same rows sorted i k v at)

-- what is under way is in the plan
pub under_way_in_plan : (P : Contents) (o : OpKey) → IsUnderWay P o → (op : Operation) × (get P.operations o ≡ Some op)
under_way_in_plan P o (inl h) = (h.0, h.1)
under_way_in_plan P o (inr (inl h)) = (h.0, h.1)
under_way_in_plan P o (inr (inr h)) = (h.0, h.1)

-- what follows where an answer is good, and where it is an error
pub if_ok : {T E : Type 0} {A B : Type 0} (r : Result T E) → OnOk r A → (A → B) → OnOk r B
if_ok (Ok t) a f = f a
if_ok (Err e) a f = tt

pub if_err : {T E : Type 0} {A B : E → Type 0} (r : Result T E) → IfErr r A → ((e : E) → A e → B e) → IfErr r B
if_err (Ok t) a f = tt
if_err (Err e) a f = f e a

-- a refusal for want of memory stays one
pub if_refused : {T : Type 0} {A B : Refusal → Type 0} (r : Result T Refusal) → IfErr r (λ e. (e ≡ refusal.Memory) ⊎ A e) → ((e : Refusal) → A e → B e) → IfErr r (λ e. (e ≡ refusal.Memory) ⊎ B e)
if_refused (Ok t) a f = tt
if_refused (Err e) (inl memory) f = inl memory
if_refused (Err e) (inr a) f = inr (f e a)

-- what is so of what is found
pub found_in : {A : Type 0} (x : Option A) (F : A → Type 0) (a : A) → x ≡ Some a → IfSome x F → F a
found_in x F a is found = subst (λ y. IfSome y F) is found

-- what is told where there is none, and where there is one
pub none_told : {A N : Type 0} (F : A → Type 0) (x : Option A) → MatchOption x N F → is_some x ≡ false → N
none_told F (Some a) h e = absurd (true≢false e)
none_told F None h e = h

pub some_told : {A : Type 0} (N : Type 0) {F : A → Type 0} (x : Option A) → MatchOption x N F → is_some x ≡ true → (a : A) × F a
some_told N (Some a) h e = (a, h)
some_told N None h e = absurd (true≢false (sym e))
