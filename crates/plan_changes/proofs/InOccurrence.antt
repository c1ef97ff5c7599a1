-- The operations of an occurrence.
use Rattle.std.proofs.Common.{◌≡◌, refl, sym, ap, ap₂, subst, ◌∙◌, true≢false, append-nil, ℕ, ◌<◌, ◌+◌, Bool, true, false, ◌||◌, ◌&&◌, eqb, Ordering, Less, Equal, Greater, cond, List, [], ◌∷◌, ◌++◌, length, take, get_or, Option, Some, None, option_map}
use Rattle.std.specs.List.{filter}
use Rattle.std.specs.FinMap.{entries, find, get, get-entries, nat_cmp-IsAntisymmetric, same_map}
use Rattle.std.specs.Map.{keys_of}
use Rattle.std.specs.Ordering.{eq_by_cmp, is_eq, nat_cmp, ordering_then}
use Rattle.std.specs.Cmp.{nat_cmp_total, eq_by_cmp_equiv}
use Rattle.std.specs.Cmp.Lexicographic.{slice_cmp}
use Rattle.std.specs.Str.{bytes_eq}
use Rattle.std.proofs.lemmas.Bool.{eqb-false, eqb-true}
use Rattle.std.proofs.lemmas.Map.Text.{is_eq-slice_cmp}
use Rattle.std.proofs.lemmas.List.{take_more}
use Rattle.std.proofs.lemmas.List.Elements.{filter-append}
use Rattle.plan_basics.specs.Keys.{occurrence_cmp, operation_cmp, operation_cmp_total, operation_cmp-IsAntisymmetric}
use Rattle.plan_basics.specs.declared.keys.OccKey.{OccKey}
use Rattle.plan_basics.specs.declared.keys.OpKey.{OpKey}
use Rattle.ready_list.specs.Choice.{is_among}
use Rattle.plan_records.specs.plan_model.specs.Contents.{Contents, IsInPlan, Operation, Operations}
use Rattle.plan_records.specs.plan_model.specs.Revise.{get-revise, revise}
use Rattle.plan_records.specs.plan_drafts.proofs.MadeEntries.{key_of}
use Rattle.plan_records.specs.Changes.{revised}

abbrev Rows : Type 0
Rows = List (OpKey × Operation)

-- whether o is of the occurrence c
abbrev pub is_in : OccKey → OpKey → Bool
is_in c o = eq_by_cmp occurrence_cmp o.occurrence c

-- ---- keys of an occurrence that compare alike are one

both_equal : (r s : Ordering) → is_eq (ordering_then r s) ≡ (is_eq r && is_eq s)
both_equal Less s = refl
both_equal Equal s = refl
both_equal Greater s = refl

told_by : (m n : ℕ) (a b : Bool) → eqb m n ≡ a → is_eq (nat_cmp m n) ≡ b → b ≡ a
told_by m n true b is at = sym at ∙ subst (λ z. is_eq (nat_cmp m z) ≡ true) (eqb-true m n is) ((eq_by_cmp_equiv nat_cmp_total).refl m)
told_by m n false true is at = absurd (eqb-false m n is (key_of nat_cmp-IsAntisymmetric m n at))
told_by m n false false is at = refl

-- the test by both parts
pub occurrence_test : (a b : OccKey) → (bytes_eq a.app b.app && eqb a.arrival b.arrival) ≡ eq_by_cmp occurrence_cmp a b
occurrence_test a b = sym (
    both_equal (slice_cmp nat_cmp a.app b.app) (nat_cmp a.arrival b.arrival)
    ∙ ap₂ (λ x y. x && y) (is_eq-slice_cmp a.app b.app) (told_by a.arrival b.arrival (eqb a.arrival b.arrival) (is_eq (nat_cmp a.arrival b.arrival)) refl refl))

-- ---- those found so far

keys_push : (rows : Rows) (row : OpKey × Operation) → keys_of (rows ++ row ∷ []) ≡ keys_of rows ++ row.0 ∷ []
keys_push [] row = refl
keys_push (x ∷ rows) row = ap (λ ks. x.0 ∷ ks) (keys_push rows row)

module _ (p : OpKey → Bool) (rows : Rows) (i : ℕ) (row : OpKey × Operation) (lt : i < length rows) (is : row ≡ get_or rows i row) where
  one_more : filter p (keys_of (take (i + 1) rows)) ≡ filter p (keys_of (take i rows)) ++ filter p (row.0 ∷ [])
  one_more =
      ap (λ (rs : Rows). filter p (keys_of rs)) (take_more rows i row lt ∙ ap (λ (r : OpKey × Operation). take i rows ++ r ∷ []) (sym is))
      ∙ ap (filter p) (keys_push (take i rows) row)
      ∙ filter-append p (keys_of (take i rows)) (row.0 ∷ [])

  -- a row of the occurrence
  pub found_more : (keys : List OpKey) → keys ≡ filter p (keys_of (take i rows)) → p row.0 ≡ true → keys ++ row.0 ∷ [] ≡ filter p (keys_of (take (i + 1) rows))
  found_more keys so_far h = ap (λ ks. ks ++ row.0 ∷ []) so_far ∙ ap (λ b. filter p (keys_of (take i rows)) ++ cond b (row.0 ∷ []) []) (sym h) ∙ sym one_more

  -- and another
  pub found_other : (keys : List OpKey) → keys ≡ filter p (keys_of (take i rows)) → p row.0 ≡ false → keys ≡ filter p (keys_of (take (i + 1) rows))
  found_other keys so_far h = so_far ∙ sym (append-nil (filter p (keys_of (take i rows)))) ∙ ap (λ b. filter p (keys_of (take i rows)) ++ cond b (row.0 ∷ []) []) (sym h) ∙ sym one_more

-- ---- whether one is among them

module _ (p : OpKey → Bool) (o : OpKey) where
  same_test : (x : OpKey) → eq_by_cmp operation_cmp o x ≡ true → p o ≡ p x
  same_test x e = ap p (key_of operation_cmp-IsAntisymmetric o x e)

  skipped : (x : OpKey) (ks : List OpKey) (a e : Bool) → p x ≡ a → eq_by_cmp operation_cmp o x ≡ e → p o ≡ false → is_among ks o ≡ false → is_among (cond a (x ∷ ks) ks) o ≡ false
  skipped x ks false e is at none rest = rest
  skipped x ks true true is at none rest = absurd (true≢false (sym is ∙ sym (same_test x at) ∙ none))
  skipped x ks true false is at none rest = ap (λ b. b || is_among ks o) at ∙ rest

  -- one at which the test fails is not among those that pass
  not_passed : (xs : List OpKey) → p o ≡ false → is_among (filter p xs) o ≡ false
  not_passed [] none = refl
  not_passed (x ∷ xs) none = skipped x (filter p xs) (p x) (eq_by_cmp operation_cmp o x) refl refl none (not_passed xs none)

  at_row : (x : OpKey) (xs : List OpKey) (a : Bool) → p x ≡ a → eq_by_cmp operation_cmp o x ≡ true → is_among (cond a (x ∷ filter p xs) (filter p xs)) o ≡ p o
  at_row x xs true is at = ap (λ b. b || is_among (filter p xs) o) at ∙ sym is ∙ sym (same_test x at)
  at_row x xs false is at = let none : p o ≡ false = same_test x at ∙ is in not_passed xs none ∙ sym none

  past_row : (x : OpKey) (ks : List OpKey) (a : Bool) → eq_by_cmp operation_cmp o x ≡ false → is_among ks o ≡ p o → is_among (cond a (x ∷ ks) ks) o ≡ p o
  past_row x ks true apart rest = ap (λ b. b || is_among ks o) apart ∙ rest
  past_row x ks false apart rest = rest

  by_row : (row : OpKey × Operation) (rows : Rows) (v : Operation) (e : Bool) → eq_by_cmp operation_cmp o row.0 ≡ e → cond e (Some row.1) (find operation_cmp o rows) ≡ Some v
      → (find operation_cmp o rows ≡ Some v → is_among (filter p (keys_of rows)) o ≡ p o) → is_among (filter p (keys_of (row ∷ rows))) o ≡ p o
  by_row row rows v true at found rest = at_row row.0 (keys_of rows) (p row.0) refl at
  by_row row rows v false at found rest = past_row row.0 (filter p (keys_of rows)) (p row.0) at (rest found)

  -- one that has a row is among those that pass where the test passes
  found_passed : (rows : Rows) (v : Operation) → find operation_cmp o rows ≡ Some v → is_among (filter p (keys_of rows)) o ≡ p o
  found_passed [] v found = cc
  found_passed (row ∷ rows) v found = by_row row rows v (eq_by_cmp operation_cmp o row.0) refl found (found_passed rows v)

  pub passed : (m : Operations) (v : Operation) → get m o ≡ Some v → is_among (filter p (keys_of (entries m))) o ≡ p o
  passed m v is = found_passed (entries m) v (sym (get-entries m o) ∙ is)

-- ---- two tests that are alike for the operations of a plan

alike_at : (f : Operation → Operation) (a b : Bool) (x : Option Operation) → ((v : Operation) → x ≡ Some v → a ≡ b) → option_map (λ v. cond a (f v) v) x ≡ option_map (λ v. cond b (f v) v) x
alike_at f a b None h = refl
alike_at f a b (Some v) h = ap (λ z. Some (cond z (f v) v)) (h v refl)

-- make the same operations anew
pub revised_alike : (s t : OpKey → Bool) (f : Operation → Operation) (P : Contents) → ((o : OpKey) → IsInPlan P o → s o ≡ t o) → revised s f P ≡ revised t f P
revised_alike s t f P alike = ap (λ m. record P { operations = m }) (same_map operation_cmp_total operation_cmp-IsAntisymmetric
    (revise (λ o op. cond (s o) (f op) op) P.operations) (revise (λ o op. cond (t o) (f op) op) P.operations) (λ q.
    get-revise operation_cmp-IsAntisymmetric (λ o op. cond (s o) (f op) op) P.operations q
    ∙ alike_at f (s q) (t q) (get P.operations q) (λ v is. alike q (v, is, tt))
    ∙ sym (get-revise operation_cmp-IsAntisymmetric (λ o op. cond (t o) (f op) op) P.operations q)))
