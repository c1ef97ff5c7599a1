-- Rows and keys of two lists, put in order.
use Rattle.std.proofs.Common.{◌≡◌, ◌≢◌, ◌⊎◌, inl, inr, sym, subst, ap, ◌∙◌, true≢false, ◌||◌, List, [], ◌∷◌, ◌++◌, Contains, Option, Some, None}
use Rattle.std.specs.Cmp.{IsTotalOrder}
use Rattle.std.specs.declared.cmp.Ordering.{Ordering}
use Rattle.std.specs.FinMap.{IsAntisymmetric, get, from_entries}
use Rattle.std.specs.FinSet as set
use Rattle.std.specs.List.Sorted.{IsPermutation, IsSortedByKey, IsStrictlySortedBy}
use Rattle.std.specs.Map.{keys_of}
use Rattle.std.proofs.lemmas.Bool.{or_cases, or_left, or_right}
use Rattle.std.proofs.lemmas.List.Elements.{All-contains, Contains-append_left, Contains-append_right, Contains-append_cases}
use Rattle.std.proofs.lemmas.List.Sorted.{Contains-permutation, IsPermutation-sym}
use Rattle.std.specs.Cmp.{both_ways as same_bool}
use Rattle.plan_records.specs.plan_model.specs.Revise.{get-joined, joined, or_else}
use Rattle.plan_records.specs.plan_drafts.proofs.Keyed.{ascend_by}
use Rattle.plan_records.specs.plan_drafts.proofs.Lists.{Differ, all_by_members, contains_head, contains_later, pairs_from_differ}
use Rattle.plan_records.specs.plan_drafts.proofs.Orders.{map_same}
use Rattle.plan_records.specs.plan_drafts.proofs.Tables.{from_set, get_row, in_set, is_none, row_found, rows_apart, same_entries, some_is, sorted_apart}
use Rattle.plan_changes.specs.Additions.{ShareNoKey, ShareNoMember}
use Rattle.std.proofs.lemmas.Option.{none-some}

-- members of two lists differ where those of each do, and those of one from those of the other
pub differ_both : {X : Type 0} (S : X → X → Type 0) (xs ys : List X) → Differ S xs → Differ S ys → ((x y : X) → Contains xs x → Contains ys y → S x y) → Differ S (xs ++ ys)
differ_both S [] ys one two across = two
differ_both S (x ∷ xs) ys one two across = (
  all_by_members (S x) (xs ++ ys) (λ z has. elim (Contains-append_cases xs ys z has) [
    | inl first ↦ All-contains (S x) xs z one.0 first
    | inr second ↦ across x z (contains_head x xs) second
  ]),
  differ_both S xs ys one.1 two (λ a b in_a in_b. across a b (contains_later x xs a in_a) in_b),
)

module _ {K X : Type 0} {R : K → K → Ordering} (total : IsTotalOrder R) (exact : IsAntisymmetric R) (old new made : List (K × X)) (same : IsPermutation (old ++ new) made)
    (old_up : IsStrictlySortedBy R (keys_of old)) (new_up : IsStrictlySortedBy R (keys_of new)) (apart : ShareNoKey {R = R} (from_entries old) (from_entries new)) where
  in_old : (k : K) (x : X) → Contains old (k, x) → get {R = R} (from_entries old) k ≡ Some x
  in_old k x has = get_row total exact old k x (rows_apart total exact old old_up) has

  in_new : (k : K) (x : X) → Contains new (k, x) → get {R = R} (from_entries new) k ≡ Some x
  in_new k x has = get_row total exact new k x (rows_apart total exact new new_up) has

  not_new : (k : K) (x : X) → Contains old (k, x) → get {R = R} (from_entries new) k ≡ None
  not_new k x has = is_none (get {R = R} (from_entries new) k) (apart k (some_is (get {R = R} (from_entries old) k) x (in_old k x has)))

  across : (a b : K × X) → Contains old a → Contains new b → a.0 ≢ b.0
  across a b in_a in_b e = none-some b.1 (sym (not_new a.0 a.1 in_a) ∙ ap (get {R = R} (from_entries new)) e ∙ in_new b.0 b.1 in_b)

  -- by key, with no key twice
  pub merged_up : IsSortedByKey (λ row. row.0) R made → IsStrictlySortedBy R (keys_of made)
  merged_up sorted =
      ascend_by total exact (λ (row : K × X). row.0) (old ++ new) made same sorted
      (pairs_from_differ (λ a b. a.0 ≢ b.0) (old ++ new) (differ_both (λ a b. a.0 ≢ b.0) old new (rows_apart total exact old old_up) (rows_apart total exact new new_up) across))

  first_of : (a b : Option X) (x : X) → a ≡ Some x → or_else a b ≡ Some x
  first_of a b x e = ap (λ z. or_else z b) e

  second_of : (a b : Option X) (x : X) → a ≡ None → b ≡ Some x → or_else a b ≡ Some x
  second_of a b x e f = ap (λ z. or_else z b) e ∙ f

  either_of : (a b : Option X) (x : X) → or_else a b ≡ Some x → (a ≡ Some x) ⊎ (b ≡ Some x)
  either_of (Some y) b x e = inl e
  either_of None b x e = inr e

  there : (k : K) (x : X) → get {R = R} (from_entries made) k ≡ Some x → get (joined {R = R} (from_entries old) (from_entries new)) k ≡ Some x
  there k x e =
      let has = Contains-permutation made (old ++ new) (k, x) (IsPermutation-sym (old ++ new) made same) (row_found total exact made k x e) in
      get-joined total (from_entries old) (from_entries new) k ∙ elim (Contains-append_cases old new (k, x) has) [
        | inl first ↦ second_of (get {R = R} (from_entries new) k) (get {R = R} (from_entries old) k) x (not_new k x first) (in_old k x first)
        | inr second ↦ first_of (get {R = R} (from_entries new) k) (get {R = R} (from_entries old) k) x (in_new k x second)
      ]

  among : (k : K) (x : X) → get (joined {R = R} (from_entries old) (from_entries new)) k ≡ Some x → Contains (old ++ new) (k, x)
  among k x e = elim (either_of (get {R = R} (from_entries new) k) (get {R = R} (from_entries old) k) x (sym (get-joined total (from_entries old) (from_entries new) k) ∙ e)) [
    | inl second ↦ Contains-append_right old new (k, x) (row_found total exact new k x second)
    | inr first ↦ Contains-append_left old new (k, x) (row_found total exact old k x first)
  ]

  -- the rows of both are the entries of both
  pub from_merged : IsStrictlySortedBy R (keys_of made) → from_entries {R = R} made ≡ joined (from_entries old) (from_entries new)
  from_merged up = same_entries total exact (from_entries made) (joined (from_entries old) (from_entries new)) there (λ k x e.
      get_row total exact made k x (rows_apart total exact made up) (Contains-permutation (old ++ new) made (k, x) same (among k x e)))

module _ {K : Type 0} {R : K → K → Ordering} (total : IsTotalOrder R) (exact : IsAntisymmetric R) (old new made : List K) (same : IsPermutation (old ++ new) made) where
  -- keys, by their order, with none twice
  pub keys_merged_up : IsStrictlySortedBy R old → IsStrictlySortedBy R new → ShareNoMember {R = R} (set.from_list old) (set.from_list new) → IsSortedByKey (λ k. k) R made → IsStrictlySortedBy R made
  keys_merged_up old_up new_up apart sorted =
      subst (IsStrictlySortedBy R) (map_same made)
      (ascend_by total exact (λ (k : K). k) (old ++ new) made same sorted
      (pairs_from_differ (λ a b. a ≢ b) (old ++ new) (differ_both (λ a b. a ≢ b) old new (sorted_apart total exact old old_up) (sorted_apart total exact new new_up)
      (λ a b in_a in_b e. true≢false (sym (in_set total exact new b in_b) ∙ ap (set.contains {R = R} (set.from_list new)) (sym e) ∙ apart a (in_set total exact old a in_a))))))

  -- the keys of both are the set of both
  pub from_keys_merged : set.from_list {R = R} made ≡ set.union (set.from_list old) (set.from_list new)
  from_keys_merged = set.same_set total exact (set.from_list made) (set.union (set.from_list old) (set.from_list new)) (λ k.
      let a = set.contains {R = R} (set.from_list old) k in
      let b = set.contains {R = R} (set.from_list new) k in
      same_bool (set.contains {R = R} (set.from_list made) k) (a || b)
      (λ e. elim (Contains-append_cases old new k (Contains-permutation made (old ++ new) k (IsPermutation-sym (old ++ new) made same) (from_set total exact made k e))) [
        | inl first ↦ or_left a b (in_set total exact old k first)
        | inr second ↦ or_right a b (in_set total exact new k second)
      ])
      (λ e. in_set total exact made k (Contains-permutation (old ++ new) made k same (elim (or_cases a b e) [
        | inl first ↦ Contains-append_left old new k (from_set total exact old k first)
        | inr second ↦ Contains-append_right old new k (from_set total exact new k second)
      ])))
      ∙ sym (set.contains-union total (set.from_list old) (set.from_list new) k))
