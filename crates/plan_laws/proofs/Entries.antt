-- What can be decided of a finite map's entries, and of a plan's operations.
use Rattle.std.proofs.Common.{◌≡◌, inl, inr, refl, sym, subst, Option, Some, None}
use Rattle.std.specs.declared.cmp.Ordering.{Ordering}
use Rattle.std.specs.Cmp.{IsTotalOrder}
use Rattle.std.specs.FinMap.{FinMap, IsAntisymmetric, get, keys}
use Rattle.plan_basics.specs.Keys.{operation_cmp-IsAntisymmetric, operation_cmp_total}
use Rattle.plan_basics.specs.declared.keys.OpKey.{OpKey}
use Rattle.plan_records.specs.plan_model.proofs.Members.{in_keys}
use Rattle.std.proofs.lemmas.Option.{none-some, same_Some}
use Rattle.operation_graph.proofs.Telling.{Told, told_all, told_any, told_contains, told_equal}
use Rattle.plan_records.specs.plan_model.specs.Contents.{Contents, Has, IsInPlan, Operation}

-- the value, if there is one
found_told : {X : Type 0} (Q : X → Type 0) (x : Option X) → ((v : X) → x ≡ Some v → Told (Q v)) → Told ((v : X) × (x ≡ Some v) × Q v)
found_told Q None each = inr (λ h. none-some h.0 h.1)
found_told Q (Some v) each = elim (each v refl) [
  | inl q ↦ inl (v, refl, q)
  | inr never ↦ inr (λ h. never (subst Q (sym (same_Some v h.0 h.1)) h.2))
]

each_told : {X : Type 0} (Q : X → Type 0) (x : Option X) → ((v : X) → x ≡ Some v → Told (Q v)) → Told ((v : X) → x ≡ Some v → Q v)
each_told Q None each = inl (λ v e. absurd (none-some v e))
each_told Q (Some v) each = elim (each v refl) [
  | inl q ↦ inl (λ u e. subst Q (same_Some v u e) q)
  | inr never ↦ inr (λ h. never (h v refl))
]

module _ {K X : Type 0} {R : K → K → Ordering} (m : FinMap R X) where
  -- it has the key, with such a value
  pub told_at : (k : K) (Q : X → Type 0) → ((x : X) → get m k ≡ Some x → Told (Q x)) → Told ((x : X) × (get m k ≡ Some x) × Q x)
  told_at k Q each = found_told Q (get m k) each

  -- if it has the key, then with such a value
  pub told_each_at : (k : K) (Q : X → Type 0) → ((x : X) → get m k ≡ Some x → Told (Q x)) → Told ((x : X) → get m k ≡ Some x → Q x)
  told_each_at k Q each = each_told Q (get m k) each

  -- all its entries are such
  pub told_entries : IsTotalOrder R → IsAntisymmetric R → (Q : K → X → Type 0) → ((k : K) (x : X) → Told (Q k x)) → Told ((k : K) (x : X) → get m k ≡ Some x → Q k x)
  told_entries o same Q each = told_all (λ k. (x : X) → get m k ≡ Some x → Q k x) (λ k. told_each_at k (Q k) (λ x e. each k x)) (keys m)
      (λ k not x e. absurd (not (in_keys same m k x e)))
      (told_contains (told_equal o same) (keys m))

  -- some entry is such
  pub told_entry : IsAntisymmetric R → (Q : K → X → Type 0) → ((k : K) (x : X) → Told (Q k x)) → Told ((k : K) × ((x : X) × (get m k ≡ Some x) × Q k x))
  told_entry same Q each = told_any (λ k. (x : X) × (get m k ≡ Some x) × Q k x) (λ k. told_at k (Q k) (λ x e. each k x)) (keys m) (λ k h. in_keys same m k h.0 h.1)

pub same_operation : (a b : OpKey) → Told (a ≡ b)
same_operation = told_equal operation_cmp_total operation_cmp-IsAntisymmetric

module _ (P : Contents) where
  -- it is so of all operations, where what isn't in the plan has it
  pub told_operations : (Q : OpKey → Type 0) → ((p : OpKey) → Told (Q p)) → ((p : OpKey) → ¬ IsInPlan P p → Q p) → Told ((p : OpKey) → Q p)
  told_operations Q each others = told_all Q each (keys P.operations)
      (λ p not. others p (λ h. not (in_keys operation_cmp-IsAntisymmetric P.operations p h.0 h.1)))
      (told_contains same_operation (keys P.operations))

  -- it is so of some operation
  pub told_operation : (Q : OpKey → Type 0) → ((p : OpKey) → Told (Q p)) → ((p : OpKey) → Q p → IsInPlan P p) → Told ((p : OpKey) × Q p)
  told_operation Q each within = told_any Q each (keys P.operations) (λ p q. let h = within p q in in_keys operation_cmp-IsAntisymmetric P.operations p h.0 h.1)

  pub told_has : (o : OpKey) (Q : Operation → Type 0) → ((op : Operation) → get P.operations o ≡ Some op → Told (Q op)) → Told (Has P o Q)
  told_has o Q each = told_at P.operations o Q each
