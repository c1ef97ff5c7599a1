-- The keys of finite maps and the members of finite sets.
use Rattle.std.proofs.Common.{◌≡◌, ◌↔◌, inl, inr, sym, ◌∙◌, ap, subst, true≢false, true, ◌||◌, List, [], ◌∷◌, Contains, Some, is_some, Ordering}
use Rattle.std.proofs.lemmas.Bool.{or_cases, or_right}
use Rattle.std.specs.List.{list_any}
use Rattle.std.specs.Ordering.{eq_by_cmp, is_eq}
use Rattle.std.specs.Cmp.{Equal-is, IsTotalOrder, tied_itself}
use Rattle.std.specs.FinMap.{FinMap, IsAntisymmetric, contains_key-keys, get, keys}
use Rattle.std.specs.FinSet as set
use Rattle.plan_basics.proofs.Members.{contains_head, contains_later, contains_cases, contains_none}

module _ {K : Type 0} {R : K → K → Ordering} where
  pub member_if : IsAntisymmetric R → (xs : List K) (k : K) → list_any (eq_by_cmp R k) xs ≡ true → Contains xs k
  member_if same [] k h = absurd (true≢false (sym h))
  member_if same (x ∷ xs) k h = elim (or_cases (eq_by_cmp R k x) (list_any (eq_by_cmp R k) xs) h) [
    | inl e ↦ subst (Contains (x ∷ xs)) (sym (same k x ((Equal-is (R k x)).0 e))) (contains_head x xs)
    | inr later ↦ contains_later x xs k (member_if same xs k later)
  ]

  pub if_member : IsTotalOrder R → (xs : List K) (k : K) → Contains xs k → list_any (eq_by_cmp R k) xs ≡ true
  if_member o [] k h = absurd (contains_none k h)
  if_member o (x ∷ xs) k h = elim (contains_cases x xs k h) [
    | inl e ↦ ap (λ b. b || list_any (eq_by_cmp R k) xs) (subst (λ z. eq_by_cmp R k z ≡ true) (sym e) (ap is_eq (tied_itself o k)))
    | inr later ↦ or_right (eq_by_cmp R k x) (list_any (eq_by_cmp R k) xs) (if_member o xs k later)
  ]

  -- what a map has at a key, it has at one of its keys
  pub in_keys : {X : Type 0} → IsAntisymmetric R → (m : FinMap R X) (k : K) (v : X) → get m k ≡ Some v → Contains (keys m) k
  in_keys same m k v e = member_if same (keys m) k (sym (contains_key-keys m k) ∙ ap is_some e)

  pub in_items : IsTotalOrder R → IsAntisymmetric R → (s : set.FinSet R) (k : K) → (set.contains s k ≡ true) ↔ Contains (set.items s) k
  in_items o same s k = (λ h. member_if same (set.items s) k (sym (set.contains-items s k) ∙ h), λ h. set.contains-items s k ∙ if_member o (set.items s) k h)
