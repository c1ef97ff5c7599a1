-- Maps and sets by their keys: how many there are, and what a list of rows or keys holds.
use Rattle.std.proofs.Common.{◌≡◌, ◌≢◌, inl, inr, refl, sym, subst, ap, ◌∙◌, arith, ℕ, zero, suc, ◌+◌, ◌-◌, Bool, true, false, cond, not, ◌&&◌, true≢false, List, [], ◌∷◌, length, Contains, Option, Some, None, is_some}
use Rattle.std.specs.List.Sorted.{IsStrictlySortedBy}
use Rattle.std.specs.Map.{keys_of}
use Rattle.std.specs.declared.cmp.Ordering.{Ordering}
use Rattle.std.specs.declared.cmp.Ordering.TheVariants.{Less, Equal}
use Rattle.std.specs.Ordering.{eq_by_cmp, is_eq}
use Rattle.std.specs.Cmp.{IsTotalOrder, tied_itself}
use Rattle.std.specs.FinMap.{FinMap, IsAntisymmetric, find, get, contains_key, len, remove, from_entries, empty, get-empty, len-empty, empty_of_len, get-remove, len-remove, get-from_entries, same_map}
use Rattle.std.specs.FinSet as set
use Rattle.plan_basics.proofs.Members.{tied_is}
use Rattle.plan_drafts.proofs.KeyPlaces.{in_listed, listed_in}
use Rattle.plan_drafts.proofs.Lists.{contains_head, contains_later, contains_cases, contains_none, all_by_members, at_member, Differ, in_map, from_map, differ_map, differ_unmap}
use Rattle.std.proofs.lemmas.Option.{none-some, same_Some}
use Rattle.std.proofs.lemmas.Bool.{false_from_ne_true}
use Rattle.std.proofs.lemmas.List.Elements.{All-contains}
use Rattle.std.proofs.lemmas.Map.Entries.{length-keys_of}

pub some_is : {A : Type 0} (x : Option A) (a : A) → x ≡ Some a → is_some x ≡ true
some_is x a e = ap is_some e

pub is_found : {A : Type 0} (x : Option A) → is_some x ≡ true → (a : A) × (x ≡ Some a)
is_found None e = absurd (true≢false (sym e))
is_found (Some a) e = (a, refl)

pub is_none : {A : Type 0} (x : Option A) → is_some x ≡ false → x ≡ None
is_none None e = refl
is_none (Some a) e = absurd (true≢false e)

-- rows of which the keys differ
abbrev pub AreApart : {K X : Type 0} → List (K × X) → Type 0
AreApart rows = Differ (λ a b. a.0 ≢ b.0) rows

module _ {K : Type 0} {R : K → K → Ordering} (total : IsTotalOrder R) (exact : IsAntisymmetric R) where
  pub itself : (k : K) → eq_by_cmp R k k ≡ true
  itself k = ap is_eq (tied_itself total k)

  pub other_key : (a b : K) → a ≢ b → eq_by_cmp R a b ≡ false
  other_key a b apart = elim (eq_by_cmp R a b) as (λ t. eq_by_cmp R a b ≡ t → t ≡ false) [ true ↦ λ e. absurd (apart (tied_is exact a b e)) | false ↦ λ e. refl ] refl

  -- keys in strict order differ
  pub sorted_apart : (ks : List K) → IsStrictlySortedBy R ks → Differ (λ a b. a ≢ b) ks
  unfolding IsStrictlySortedBy
  sorted_apart [] up = tt
  sorted_apart (k ∷ ks) up =
      (all_by_members (λ b. k ≢ b) ks (λ b has same. let less : R k b ≡ Less = at_member (λ x. R k x ≡ Less) ks b up.0 has in let tied : R k b ≡ Equal = ap (R k) (sym same) ∙ tied_itself total k in cc), sorted_apart ks up.1)

  module _ {M : Type 0} (has : M → K → Bool) (size : M → ℕ) (without : M → K → M) (has-without : (m : M) (k q : K) → has (without m k) q ≡ cond (eq_by_cmp R q k) false (has m q)) (size-without : (m : M) (k : K) → has m k ≡ true → size (without m k) + 1 ≡ size m) (size-none : (m : M) → ((q : K) → has m q ≡ false) → size m ≡ 0) where
    -- what holds just the members of a list holds as many
    pub same_count : (ks : List K) (m : M) → Differ (λ a b. a ≢ b) ks → ((k : K) → Contains ks k → has m k ≡ true) → ((k : K) → has m k ≡ true → Contains ks k) → length ks ≡ size m
    same_count [] m apart within all = sym (size-none m (λ q. false_from_ne_true (has m q) (λ e. contains_none q (all q e))))
    same_count (k ∷ ks) m apart within all =
        let here : has m k ≡ true = within k (contains_head k ks) in
        let rest : length ks ≡ size (without m k) = same_count ks (without m k) apart.1 (λ q in_rest. has-without m k q ∙ ap (λ t. cond t false (has m q)) (other_key q k (λ e. All-contains (λ b. k ≢ b) ks q apart.0 in_rest (sym e))) ∙ within q (contains_later k ks q in_rest)) (λ q e. left q (elim_rest q e)) in
        omega (arith, size-without m k here)
      where
        elim_rest : (q : K) → has (without m k) q ≡ true → (eq_by_cmp R q k ≡ false) × (has m q ≡ true)
        elim_rest q e = elim (eq_by_cmp R q k) as (λ t. eq_by_cmp R q k ≡ t → cond t false (has m q) ≡ true → (eq_by_cmp R q k ≡ false) × (has m q ≡ true)) [
          | true ↦ λ t f. absurd (true≢false (sym f))
          | false ↦ λ t f. (t, f)
        ] refl (sym (has-without m k q) ∙ e)

        left : (q : K) → (eq_by_cmp R q k ≡ false) × (has m q ≡ true) → Contains ks q
        left q (other, e) = elim (contains_cases k ks q (all q e)) [
          | inl same ↦ absurd (true≢false (sym (itself k) ∙ ap (λ z. eq_by_cmp R z k) same ∙ other))
          | inr later ↦ later
        ]

  module _ {X : Type 0} where
    has-remove : (m : FinMap R X) (k q : K) → contains_key (remove m k) q ≡ cond (eq_by_cmp R q k) false (contains_key m q)
    has-remove m k q = ap is_some (get-remove total m k q) ∙ elim (eq_by_cmp R q k) as (λ t. is_some (cond t None (get m q)) ≡ cond t false (is_some (get m q))) [ true ↦ refl | false ↦ refl ]

    not_empty : (m : FinMap R X) (k : K) → contains_key m k ≡ true → len m ≡ 0 → ⊥
    not_empty m k e none = true≢false (sym e ∙ ap (λ n. is_some (get n k)) (empty_of_len m none) ∙ ap is_some (get-empty R k))

    len-without : (m : FinMap R X) (k : K) → contains_key m k ≡ true → len (remove m k) + 1 ≡ len m
    len-without m k e =
        let shorter : len (remove m k) ≡ len m - 1 = len-remove total m k ∙ ap (λ b. cond b (len m - 1) (len m)) e in
        positive (len m) refl shorter
      where
        positive : (n : ℕ) → len m ≡ n → len (remove m k) ≡ len m - 1 → len (remove m k) + 1 ≡ len m
        positive zero is s = absurd (not_empty m k e is)
        positive (suc n) is s = omega arith

    len-none : (m : FinMap R X) → ((q : K) → contains_key m q ≡ false) → len m ≡ 0
    len-none m h = ap len (same_map total exact m empty (λ q. is_none (get m q) (h q) ∙ sym (get-empty R q))) ∙ len-empty R X

    -- a map that has just the keys of a list has as many
    pub map_count : (ks : List K) (m : FinMap R X) → Differ (λ a b. a ≢ b) ks → ((k : K) → Contains ks k → contains_key m k ≡ true) → ((k : K) → contains_key m k ≡ true → Contains ks k) → length ks ≡ len m
    map_count = same_count contains_key len remove has-remove len-without len-none

    pub rows_apart : (rows : List (K × X)) → IsStrictlySortedBy R (keys_of rows) → AreApart rows
    rows_apart rows up = differ_unmap (λ (p : K × X). p.0) (λ a b. a ≢ b) rows (sorted_apart (keys_of rows) up)

    found_in : (rows : List (K × X)) (k : K) (v : X) → AreApart rows → Contains rows (k, v) → find R k rows ≡ Some v
    found_in [] k v apart has = absurd (contains_none (k, v) has)
    found_in (r ∷ rows) k v apart has = elim (contains_cases r rows (k, v) has) [
      | inl e ↦ let same : r.0 ≡ k = ap (λ p. p.0) e in ap (λ t. cond t (Some r.1) (find R k rows)) (ap (eq_by_cmp R k) same ∙ itself k) ∙ ap (λ p. Some p.1) e
      | inr later ↦ ap (λ t. cond t (Some r.1) (find R k rows)) (other_key k r.0 (λ e. All-contains (λ b. r.0 ≢ b.0) rows (k, v) apart.0 later (sym e))) ∙ found_in rows k v apart.1 later
    ]

    pub get_row : (rows : List (K × X)) (k : K) (v : X) → AreApart rows → Contains rows (k, v) → get (from_entries {R = R} rows) k ≡ Some v
    get_row rows k v apart has = get-from_entries total rows k ∙ found_in rows k v apart has

    found_from : (rows : List (K × X)) (k : K) (v : X) → find R k rows ≡ Some v → Contains rows (k, v)
    found_from [] k v e = absurd (none-some v e)
    found_from (r ∷ rows) k v e = elim (eq_by_cmp R k r.0) as (λ t. eq_by_cmp R k r.0 ≡ t → cond t (Some r.1) (find R k rows) ≡ Some v → Contains (r ∷ rows) (k, v)) [
      | true ↦ λ t f. subst (λ p. Contains (r ∷ rows) p) (λ i. (sym (tied_is exact k r.0 t) i, same_Some r.1 v f i)) (contains_head r rows)
      | false ↦ λ t f. contains_later r rows (k, v) (found_from rows k v f)
    ] refl e

    pub row_found : (rows : List (K × X)) (k : K) (v : X) → get (from_entries {R = R} rows) k ≡ Some v → Contains rows (k, v)
    row_found rows k v e = found_from rows k v (sym (get-from_entries total rows k) ∙ e)

    pub key_found : (rows : List (K × X)) (k : K) → contains_key (from_entries {R = R} rows) k ≡ true → Contains (keys_of rows) k
    key_found rows k e = let found = is_found (get (from_entries {R = R} rows) k) e in in_map (λ (p : K × X). p.0) rows (k, found.0) (row_found rows k found.0 found.1)

    pub len_rows : (rows : List (K × X)) → AreApart rows → len (from_entries {R = R} rows) ≡ length rows
    len_rows rows apart =
        sym (map_count (keys_of rows) (from_entries rows) (differ_map (λ (p : K × X). p.0) (λ a b. a ≢ b) rows apart)
        (λ k has. let r = from_map (λ (p : K × X). p.0) rows k has in some_is _ r.0.1 (get_row rows k r.0.1 apart (subst (λ z. Contains rows (z, r.0.1)) r.2 r.1)))
        (λ k e. key_found rows k e))
        ∙ length-keys_of rows

  -- a set that has just the keys of a list has as many
  set_without : (s : set.FinSet R) (k q : K) → set.contains (set.remove s k) q ≡ cond (eq_by_cmp R q k) false (set.contains s q)
  set_without s k q = set.contains-remove total s k q ∙ elim (eq_by_cmp R q k) as (λ t. (not t && set.contains s q) ≡ cond t false (set.contains s q)) [ true ↦ refl | false ↦ refl ]

  set_not_empty : (s : set.FinSet R) (k : K) → set.contains s k ≡ true → set.len s ≡ 0 → ⊥
  set_not_empty s k e none = true≢false (sym e ∙ ap (λ n. set.contains n k) (set.empty_of_len s none) ∙ set.contains-empty R k)

  set_shorter : (s : set.FinSet R) (k : K) → set.contains s k ≡ true → set.len (set.remove s k) + 1 ≡ set.len s
  set_shorter s k e =
      let shorter : set.len (set.remove s k) ≡ set.len s - 1 = set.len-remove total s k ∙ ap (λ b. cond b (set.len s - 1) (set.len s)) e in
      positive (set.len s) refl shorter
    where
      positive : (n : ℕ) → set.len s ≡ n → set.len (set.remove s k) ≡ set.len s - 1 → set.len (set.remove s k) + 1 ≡ set.len s
      positive zero is h = absurd (set_not_empty s k e is)
      positive (suc n) is h = omega arith

  set_none : (s : set.FinSet R) → ((q : K) → set.contains s q ≡ false) → set.len s ≡ 0
  set_none s h = ap set.len (set.same_set total exact s set.empty (λ q. h q ∙ sym (set.contains-empty R q))) ∙ set.len-empty R

  pub set_count : (ks : List K) (s : set.FinSet R) → Differ (λ a b. a ≢ b) ks → ((k : K) → Contains ks k → set.contains s k ≡ true) → ((k : K) → set.contains s k ≡ true → Contains ks k) → length ks ≡ set.len s
  set_count = same_count set.contains set.len set.remove set_without set_shorter set_none

  pub in_set : (ks : List K) (q : K) → Contains ks q → set.contains (set.from_list {R = R} ks) q ≡ true
  in_set = in_listed total exact

  pub from_set : (ks : List K) (q : K) → set.contains (set.from_list {R = R} ks) q ≡ true → Contains ks q
  from_set = listed_in total exact

  pub len_set : (ks : List K) → Differ (λ a b. a ≢ b) ks → set.len (set.from_list {R = R} ks) ≡ length ks
  len_set ks apart = sym (set_count ks (set.from_list ks) apart (in_set ks) (from_set ks))

-- two maps of which each has what the other has are one
pub same_entries : {K X : Type 0} {R : K → K → Ordering} → IsTotalOrder R → IsAntisymmetric R → (m n : FinMap R X) → ((k : K) (x : X) → get m k ≡ Some x → get n k ≡ Some x) → ((k : K) (x : X) → get n k ≡ Some x → get m k ≡ Some x) → m ≡ n
same_entries {K} {X} total exact m n there back = same_map total exact m n (λ q. same q (get m q) (get n q) refl refl)
  where
    same : (q : K) (a b : Option X) → get m q ≡ a → get n q ≡ b → get m q ≡ get n q
    same q (Some x) b e f = e ∙ sym (there q x e)
    same q None None e f = e ∙ sym f
    same q None (Some y) e f = absurd (none-some y (sym e ∙ back q y f))
