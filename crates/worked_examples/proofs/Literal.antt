-- What is found in a plan that is written out: its entries and pairs, and the neighbours of an operation.
use Rattle.std.proofs.Common.{◌≡◌, ◌⊎◌, inl, inr, refl, sym, ◌∙◌, ap, subst, true≢false, Bool, true, false, cond, ◌||◌, List, [], ◌∷◌, Some}
use Rattle.std.specs.declared.cmp.Ordering.{Ordering}
use Rattle.std.specs.List.{list_any}
use Rattle.std.specs.Ordering.{eq_by_cmp, is_eq}
use Rattle.std.specs.Cmp.{IsTotalOrder, Equal-is, tied_itself}
use Rattle.std.specs.FinMap.{IsAntisymmetric, contains_key, get, find, from_entries, get-from_entries}
use Rattle.std.specs.FinSet.{contains, contains-from_list, from_list}
use Rattle.plan_basics.specs.declared.keys.OpKey.{OpKey}
use Rattle.plan_basics.specs.Keys.{operation_cmp, operation_cmp_total}
use Rattle.plan_model.specs.Contents.{pair_cmp}
use Rattle.plan_drafts.proofs.Tables.{is_found}
use Rattle.std.proofs.lemmas.Option.{same_Some, none-some}
use Rattle.plan_laws.proofs.Pairs.{pair_cmp_total, pair_cmp-IsAntisymmetric}

-- some element of the list has it
abbrev pub OneOf : {A : Type 0} → (A → Type 0) → List A → Type 0
OneOf Q [] = ⊥
OneOf Q (x ∷ xs) = Q x ⊎ OneOf Q xs

module _ {K X : Type 0} where
  -- it holds of each entry of the list
  abbrev pub EachEntry : (K → X → Type 0) → List (K × X) → Type 0
  EachEntry Q [] = Unit {0}
  EachEntry Q (e ∷ es) = Q e.0 e.1 × EachEntry Q es

  -- then it holds of one of them
  pub at_entry : (Q : K → X → Type 0) (es : List (K × X)) (q : K) (x : X) → EachEntry Q es → OneOf (λ e. (q ≡ e.0) × (x ≡ e.1)) es → Q q x
  at_entry Q [] q x h never = absurd never
  at_entry Q (e ∷ es) q x h (inl is) = subst (λ z. Q z x) (sym is.0) (subst (Q e.0) (sym is.1) h.0)
  at_entry Q (e ∷ es) q x h (inr more) = at_entry Q es q x h.1 more

module _ {K X : Type 0} {R : K → K → Ordering} where
  entry_cases : IsAntisymmetric R → (q k : K) (v x : X) (es : List (K × X)) (r : Bool) → eq_by_cmp R q k ≡ r → cond r (Some v) (find R q es) ≡ Some x → (find R q es ≡ Some x → OneOf (λ e. (q ≡ e.0) × (x ≡ e.1)) es) → OneOf (λ e. (q ≡ e.0) × (x ≡ e.1)) ((k, v) ∷ es)
  entry_cases same q k v x es true ties is rest = inl (same q k ((Equal-is (R q k)).0 ties), sym (same_Some v x is))
  entry_cases same q k v x es false ties is rest = inr (rest is)

  -- what is found in a list of entries is one of them
  pub found_entry : IsAntisymmetric R → (es : List (K × X)) (q : K) (x : X) → find R q es ≡ Some x → OneOf (λ e. (q ≡ e.0) × (x ≡ e.1)) es
  found_entry same [] q x is = absurd (none-some x is)
  found_entry same (e ∷ es) q x is = entry_cases same q e.0 e.1 x es (eq_by_cmp R q e.0) refl is (found_entry same es q x)

  pub entry_of : IsTotalOrder R → IsAntisymmetric R → (es : List (K × X)) (q : K) (x : X) → get (from_entries {R = R} es) q ≡ Some x → OneOf (λ e. (q ≡ e.0) × (x ≡ e.1)) es
  entry_of o same es q x is = found_entry same es q x (sym (get-from_entries o es q) ∙ is)

  -- what holds of each entry holds of what is found
  pub each_entry : IsTotalOrder R → IsAntisymmetric R → (es : List (K × X)) (Q : K → X → Type 0) → EachEntry Q es → (q : K) (x : X) → get (from_entries {R = R} es) q ≡ Some x → Q q x
  each_entry o same es Q h q x is = at_entry Q es q x h (entry_of o same es q x is)

  -- what holds of each key holds of those that are there
  pub each_key : IsTotalOrder R → IsAntisymmetric R → (es : List (K × X)) (Q : K → Type 0) → EachEntry (λ q x. Q q) es → (q : K) → contains_key (from_entries {R = R} es) q ≡ true → Q q
  each_key o same es Q h q has = let found = is_found (get (from_entries es) q) has in each_entry o same es (λ k x. Q k) h q found.0 found.1

-- ---- neighbours

-- of the pairs that pass a test, what is picked from each
abbrev pub picked : (OpKey × OpKey → Bool) → (OpKey × OpKey → OpKey) → List (OpKey × OpKey) → List OpKey
picked test pick [] = []
picked test pick (pair ∷ pairs) = cond (test pair) (pick pair ∷ picked test pick pairs) (picked test pick pairs)

-- the predecessors of o by a list of pairs
abbrev pub befores : List (OpKey × OpKey) → OpKey → List OpKey
befores pairs o = picked (λ pair. eq_by_cmp operation_cmp o pair.1) (λ pair. pair.0) pairs

-- the successors of p
abbrev pub afters : List (OpKey × OpKey) → OpKey → List OpKey
afters pairs p = picked (λ pair. eq_by_cmp operation_cmp p pair.0) (λ pair. pair.1) pairs

taken : {A : Type 0} (Q : A → Type 0) (b : Bool) (x : A) (xs : List A) → b ≡ true → Q x → OneOf Q (cond b (x ∷ xs) xs)
taken Q true x xs e h = inl h
taken Q false x xs e h = absurd (true≢false (sym e))

kept : {A : Type 0} (Q : A → Type 0) (b : Bool) (x : A) (xs : List A) → OneOf Q xs → OneOf Q (cond b (x ∷ xs) xs)
kept Q true x xs h = inr h
kept Q false x xs h = h

or_cases : {A : Type 0} (a b : Bool) → (a || b) ≡ true → (a ≡ true → A) → (b ≡ true → A) → A
or_cases true b e f g = f refl
or_cases false b e f g = g e

-- a pair that is there and passes gives one of them
picked_from : (test : OpKey × OpKey → Bool) (pick : OpKey × OpKey → OpKey) (pair : OpKey × OpKey) (pairs : List (OpKey × OpKey)) → test pair ≡ true → contains (from_list {R = pair_cmp} pairs) pair ≡ true → OneOf (λ q. pick pair ≡ q) (picked test pick pairs)
picked_from test pick pair pairs passes has = among pairs (sym (contains-from_list pair_cmp_total pairs pair) ∙ has)
  where
    among : (others : List (OpKey × OpKey)) → list_any (eq_by_cmp pair_cmp pair) others ≡ true → OneOf (λ q. pick pair ≡ q) (picked test pick others)
    among [] e = absurd (true≢false (sym e))
    among (other ∷ others) e =
        or_cases (eq_by_cmp pair_cmp pair other) (list_any (eq_by_cmp pair_cmp pair) others) e
        (λ is. let same = pair_cmp-IsAntisymmetric pair other ((Equal-is (pair_cmp pair other)).0 is) in taken (λ q. pick pair ≡ q) (test other) (pick other) (picked test pick others) (ap test (sym same) ∙ passes) (ap pick same))
        (λ later. kept (λ q. pick pair ≡ q) (test other) (pick other) (picked test pick others) (among others later))

ties : (o : OpKey) → eq_by_cmp operation_cmp o o ≡ true
ties o = ap is_eq (tied_itself operation_cmp_total o)

-- a predecessor is among those of the list
pub one_before : (pairs : List (OpKey × OpKey)) (p o : OpKey) → contains (from_list {R = pair_cmp} pairs) (p, o) ≡ true → OneOf (λ q. p ≡ q) (befores pairs o)
one_before pairs p o = picked_from (λ pair. eq_by_cmp operation_cmp o pair.1) (λ pair. pair.0) (p, o) pairs (ties o)

-- so is a successor
pub one_after : (pairs : List (OpKey × OpKey)) (p o : OpKey) → contains (from_list {R = pair_cmp} pairs) (p, o) ≡ true → OneOf (λ q. o ≡ q) (afters pairs p)
one_after pairs p o = picked_from (λ pair. eq_by_cmp operation_cmp p pair.0) (λ pair. pair.1) (p, o) pairs (ties p)

pub only : {A : Type 0} (x y : A) → OneOf (λ q. x ≡ q) (y ∷ []) → x ≡ y
only x y (inl e) = e
only x y (inr h) = absurd h
