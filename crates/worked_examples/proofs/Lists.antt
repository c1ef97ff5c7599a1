-- Members and splits of lists that are written out, and the entries of finite maps.
use Rattle.std.proofs.Common.{arith, ◌≡◌, inl, inr, refl, sym, ◌∙◌, ap, ap₂, subst, zero, suc, Bool, true, false, cond, ◌||◌, List, [], ◌∷◌, ◌++◌, Contains, T, Option, Some, None, option_map}
use Rattle.std.proofs.lemmas.List.Folds.{list_any-append}
use Rattle.std.specs.List.{filter}
use Rattle.std.specs.declared.cmp.Ordering.{Ordering}
use Rattle.std.specs.declared.cmp.Ordering.TheVariants.{Equal}
use Rattle.std.specs.Ordering.{eq_by_cmp}
use Rattle.std.specs.Cmp.{IsTotalOrder}
use Rattle.std.specs.FinMap.{FinMap, IsAntisymmetric, entries, entries-from_sorted, find, from_entries, from_sorted, get, get-empty, get-from_entries, get-from_sorted, get-retain_keys, is_sorted, retain_keys, same_map}
use Rattle.std.specs.FinMap.Entries.{find-where_key}
use Rattle.std.specs.FinSet as set
use Rattle.plan_model.specs.Revise.{get-joined, get-revise, joined, or_else, revise}
use Rattle.plan_drafts.proofs.MadeEntries.{find-made}
pub use Rattle.plan_drafts.proofs.MadeEntries.{each_made as anew}
use Rattle.plan_drafts.proofs.RowPlaces.{from_made}
use Rattle.plan_laws.proofs.Sorted.{contains_head, contains_later}
use Rattle.worked_examples.proofs.Literal.{OneOf}

-- each way to split the list at an element has it
abbrev pub EachSplit : {A : Type 0} → List A → (List A → A → Type 0) → Type 0
EachSplit [] Q = Unit {0}
EachSplit (x ∷ xs) Q = Q [] x × EachSplit xs (λ before. Q (x ∷ before))

pub each_split : {A : Type 0} (xs : List A) (Q : List A → A → Type 0) → EachSplit xs Q → (before after : List A) (o : A) → xs ≡ before ++ o ∷ after → Q before o
each_split [] Q h [] after o e = absurd (cc)
each_split [] Q h (b ∷ before) after o e = absurd (cc)
each_split (x ∷ xs) Q h [] after o e = let k : x ≡ o = cc in subst (Q []) k h.0
each_split (x ∷ xs) Q h (b ∷ before) after o e =
    let k : x ≡ b = cc in
    let rest : xs ≡ before ++ o ∷ after = cc in
    subst (λ z. Q (z ∷ before) o) k (each_split xs (λ bs. Q (x ∷ bs)) h.1 before after o rest)

-- what follows from it holds where it holds
pub each_so : {A : Type 0} (Q R : List A → A → Type 0) (xs : List A) → ((before : List A) (x : A) → Q before x → R before x) → EachSplit xs Q → EachSplit xs R
each_so Q R [] f h = tt
each_so Q R (x ∷ xs) f h = (f [] x h.0, each_so (λ before. Q (x ∷ before)) (λ before. R (x ∷ before)) xs (λ before. f (x ∷ before)) h.1)

-- each of the first list is one of the second
abbrev pub AreAmong : {A : Type 0} → List A → List A → Type 0
AreAmong [] ys = Unit {0}
AreAmong (x ∷ xs) ys = OneOf (λ y. x ≡ y) ys × AreAmong xs ys

pub one_among : {A : Type 0} (xs ys : List A) → AreAmong xs ys → (k : A) → OneOf (λ x. k ≡ x) xs → OneOf (λ y. k ≡ y) ys
one_among [] ys h k never = absurd never
one_among (x ∷ xs) ys h k (inl e) = subst (λ z. OneOf (λ y. z ≡ y) ys) (sym e) h.0
one_among (x ∷ xs) ys h k (inr more) = one_among xs ys h.1 k more

-- one of the list is a member of it
pub contained : {A : Type 0} (xs : List A) (k : A) → OneOf (λ x. k ≡ x) xs → Contains xs k
contained [] k h = absurd h
contained (x ∷ xs) k (inl e) = subst (Contains (x ∷ xs)) (sym e) (contains_head x xs)
contained (x ∷ xs) k (inr h) = contains_later x xs k (contained xs k h)

pub one_of : {A : Type 0} (xs : List A) (k : A) → Contains xs k → OneOf (λ x. k ≡ x) xs
one_of [] k (i, h, e) = absurd (omega arith)
one_of (x ∷ xs) k (zero, h, e) = inl (sym e)
one_of (x ∷ xs) k (suc i, h, e) = inr (one_of xs k (i, omega arith, e))

module _ {K X : Type 0} {R : K → K → Ordering} where
  module _ (o : IsTotalOrder R) (same : IsAntisymmetric R) where
    -- a map written out in the keys' order has these entries
    pub entries-from_entries : (es : List (K × X)) → T (is_sorted R es) → entries (from_entries {R = R} es) ≡ es
    entries-from_entries es h =
        ap entries (same_map o same (from_entries es) (from_sorted es) (λ q. get-from_entries o es q ∙ sym (get-from_sorted R es q h)))
        ∙ entries-from_sorted R es h

    -- made anew, it has those entries with their values made anew
    pub entries-revise : (f : K → X → X) (es : List (K × X)) → T (is_sorted R es) → T (is_sorted R (anew f es)) → entries (revise f (from_entries {R = R} es)) ≡ anew f es
    entries-revise f es h k =
        ap entries (same_map o same (revise f (from_entries es)) (from_sorted (anew f es))
        (λ q. get-revise same f (from_entries es) q ∙ ap (option_map (f q)) (get-from_entries o es q) ∙ sym (find-made R o same f q es) ∙ sym (get-from_sorted R (anew f es) q k)))
        ∙ entries-from_sorted R (anew f es) k

    -- a map written out, made anew
    pub revise_written : (f : K → X → X) (es : List (K × X)) → revise f (from_entries {R = R} es) ≡ from_entries (anew f es)
    revise_written f es = sym (from_made R o same f es)

    -- a map written out, with one more entry
    pub joined_written : (es : List (K × X)) (k : K) (v : X) → joined (from_entries {R = R} es) (from_entries ((k, v) ∷ [])) ≡ from_entries ((k, v) ∷ es)
    joined_written es k v =
        same_map o same (joined (from_entries es) (from_entries ((k, v) ∷ []))) (from_entries ((k, v) ∷ es))
        (λ q.
        get-joined o (from_entries es) (from_entries ((k, v) ∷ [])) q
        ∙ ap₂ or_else (get-from_entries o ((k, v) ∷ []) q) (get-from_entries o es q)
        ∙ first_of_two (eq_by_cmp R q k) v (find R q es)
        ∙ sym (get-from_entries o ((k, v) ∷ es) q))
      where
        first_of_two : (b : Bool) (x : X) (y : Option X) → or_else (cond b (Some x) None) y ≡ cond b (Some x) y
        first_of_two true x y = refl
        first_of_two false x y = refl

    -- of a map written out, the entries whose keys pass the test
    pub kept_written : (p : K → Bool) (es : List (K × X)) → retain_keys (from_entries {R = R} es) p ≡ from_entries (filter (λ e. p e.0) es)
    kept_written p es =
        same_map o same (retain_keys (from_entries es) p) (from_entries (filter (λ e. p e.0) es))
        (λ q.
        get-retain_keys (from_entries es) p q (alike q)
        ∙ ap (λ x. cond (p q) x None) (get-from_entries o es q)
        ∙ sym (find-where_key R p q (alike q) es)
        ∙ sym (get-from_entries o (filter (λ e. p e.0) es) q))
      where
        alike : (q x : K) → R q x ≡ Equal → p x ≡ p q
        alike q x e = ap p (sym (same q x e))

    -- a map with nothing more
    pub joined_empty : (m : FinMap R X) → joined m (from_entries []) ≡ m
    joined_empty m = same_map o same (joined m (from_entries [])) m (λ q. get-joined o m (from_entries []) q ∙ ap (λ x. or_else x (get m q)) (get-empty R q))

-- two sets written out, together
pub union_written : {K : Type 0} {R : K → K → Ordering} → IsTotalOrder R → IsAntisymmetric R → (ks js : List K) → set.union (set.from_list {R = R} ks) (set.from_list js) ≡ set.from_list (ks ++ js)
union_written {R = R} o same ks js =
    set.same_set o same (set.union (set.from_list ks) (set.from_list js)) (set.from_list (ks ++ js))
    (λ q.
    set.contains-union o (set.from_list ks) (set.from_list js) q
    ∙ ap₂ (λ a b. a || b) (set.contains-from_list o ks q) (set.contains-from_list o js q)
    ∙ sym (list_any-append (eq_by_cmp R q) ks js)
    ∙ sym (set.contains-from_list o (ks ++ js) q))
