-- The entries of a map, as rows in order of their keys.
use Rattle.std.proofs.Common.{◌≡◌, refl, sym, ap, ◌∙◌, arith, Bool, true, false, ◌&&◌, T, List, [], ◌∷◌, length, Ordering, Less, Equal, Greater}
use Rattle.std.specs.Cmp.{IsTotalOrder}
use Rattle.std.specs.FinMap.{FinMap, IsAntisymmetric, entries, entries-insert, entries_sorted, from_entries, get-entries, get-from_entries, keys, len-empty, len-entries, same_map}
use Rattle.std.specs.FinMap.Entries.{below_all, by_order, is_sorted, put}
use Rattle.std.specs.List.{AllByRecursion}
use Rattle.std.specs.Ordering.{is_lt}
use Rattle.std.specs.List.Sorted.{IsStrictlySortedBy}
use Rattle.std.specs.Map.{keys_of}
use Rattle.std.proofs.lemmas.Map.Keys.{sorted_head, sorted_tail}

nil_of_length : {X : Type 0} (xs : List X) → length xs ≡ 0 → xs ≡ []
nil_of_length [] e = refl
nil_of_length (x ∷ xs) e = absurd (omega (arith, e))

module _ {K X : Type 0} {R : K → K → Ordering} (o : IsTotalOrder R) where
  -- rows in order are the entries of their map
  pub rows_in_order : (rows : List (K × X)) → IsStrictlySortedBy R (keys_of rows) → entries {R = R} (from_entries rows) ≡ rows
  rows_in_order [] h = nil_of_length (entries {R = R} (from_entries [])) (sym (len-entries (from_entries {R = R} [])) ∙ len-empty R X)
  rows_in_order (a ∷ []) h = entries-insert o (from_entries {R = R} []) a.0 a.1 ∙ ap (put R a.0 a.1) (rows_in_order [] (sorted_tail R a.0 [] h))
  rows_in_order (a ∷ b ∷ rows) h =
      entries-insert o (from_entries {R = R} (b ∷ rows)) a.0 a.1
      ∙ ap (put R a.0 a.1) (rows_in_order (b ∷ rows) (sorted_tail R a.0 (keys_of (b ∷ rows)) h))
      ∙ ap (λ r. by_order r (a ∷ b ∷ rows) ((b.0, a.1) ∷ rows) (b ∷ put R a.0 a.1 rows)) ((sorted_head R a.0 (keys_of (b ∷ rows)) h).0)

less_of : (r : Ordering) → T (is_lt r) → r ≡ Less
less_of Less h = refl
less_of Equal h = absurd h
less_of Greater h = absurd h

both_of : (a b : Bool) → T (a && b) → T a × T b
both_of true b h = (tt, h)
both_of false b h = absurd h

module _ {K X : Type 0} (R : K → K → Ordering) where
  all_above : (k : K) (es : List (K × X)) → T (below_all R k es) → AllByRecursion (λ q. R k q ≡ Less) (keys_of es)
  all_above k [] h = tt
  all_above k (e ∷ es) h = let both = both_of (is_lt (R k e.0)) (below_all R k es) h in (less_of (R k e.0) both.0, all_above k es both.1)

  in_order : (es : List (K × X)) → T (is_sorted R es) → IsStrictlySortedBy R (keys_of es)
  unfolding IsStrictlySortedBy
  in_order [] h = tt
  in_order (e ∷ es) h = let both = both_of (below_all R e.0 es) (is_sorted R es) h in (all_above e.0 es both.0, in_order es both.1)

  -- they are in order
  pub entries_in_order : (m : FinMap R X) → IsStrictlySortedBy R (keys_of (entries m))
  entries_in_order m = in_order (entries m) (entries_sorted m)

  -- their map is the one whose entries they are
  pub entries_are : IsTotalOrder R → IsAntisymmetric R → (m : FinMap R X) → from_entries (entries m) ≡ m
  entries_are o exact m = same_map o exact (from_entries (entries m)) m (λ q. get-from_entries o (entries m) q ∙ sym (get-entries m q))

  -- their keys are its keys
  pub keys_of-entries : (m : FinMap R X) → keys m ≡ keys_of (entries m)
  keys_of-entries m = refl
