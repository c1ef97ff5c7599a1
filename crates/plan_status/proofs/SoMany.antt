-- Numbers of operations among the first rows, as one row after another is gone through.
use Rattle.std.proofs.Common.{◌≡◌, ◌⊎◌, inl, inr, refl, sym, ap, subst, ◌∙◌, arith, ℕ, ◌+◌, ◌<◌, ◌≤◌, List, [], ◌∷◌, ◌++◌, length, Contains, slice_get, Some, Less}
use Rattle.std.proofs.lemmas.Bool.{cases_lt}
use Rattle.std.proofs.lemmas.List.{length-append}
use Rattle.std.proofs.lemmas.Option.{slice_get_within, some_pair_parts}
use Rattle.std.specs.FinMap.{from_entries, get}
use Rattle.std.specs.List.Sorted.{IsStrictlySortedBy}
use Rattle.std.specs.Map.{keys_of}
use Rattle.plan_basics.specs.Keys.{operation_cmp, operation_cmp-IsAntisymmetric, operation_cmp_total}
use Rattle.plan_basics.specs.declared.keys.OpKey.{OpKey}
use Rattle.plan_basics.proofs.Members.{contains_none}
use Rattle.plan_model.specs.Contents.{Operation}
use Rattle.plan_laws.specs.plan_drafts.proofs.RowPlaces.{place_of_found}
use Rattle.plan_laws.specs.plan_records.specs.Rows.{IsCount}
use Rattle.plan_status.proofs.Ascending.{keys_ascend, pushed_earlier, pushed_is, pushed_last, sorted_pushed}
use Rattle.plan_status.specs.OneMore.{RisesIf}

-- the operation of one of the first i rows
abbrev pub IsBefore : List (OpKey × Operation) → ℕ → OpKey → Type 0
IsBefore rows i o = (j : ℕ) × (op : Operation) × (j < i) × (slice_get rows j ≡ Some (o, op))

-- among the first i rows, the operations of which S holds are this many
pub record IsSoMany (rows : List (OpKey × Operation)) (i : ℕ) (S : OpKey → Type 0) (n : ℕ) : Type 0 where
  pub counted : IsCount (λ o. IsBefore rows i o × S o) n
  pub at_most : n ≤ i

module _ (rows : List (OpKey × Operation)) (S : OpKey → Type 0) where
  pub none_before : IsSoMany rows 0 S 0
  unfolding IsStrictlySortedBy
  none_before = record {
    counted = ([], tt, λ o. (λ has. absurd (contains_none o has), λ h. absurd (omega (arith, h.0.2))), refl);
    at_most = omega arith;
  }

  module _ (sorted : IsStrictlySortedBy operation_cmp (keys_of rows)) (i : ℕ) (k : OpKey) (op : Operation)
      (row : slice_get rows i ≡ Some (k, op)) (n : ℕ) (many : IsSoMany rows i S n) where
    abbrev found : List OpKey
    found = many.counted.0

    still : (o : OpKey) → IsBefore rows i o → IsBefore rows (i + 1) o
    still o h = (h.0, h.1, omega (arith, h.2), h.3)

    -- it is before row i, or it is that row's
    last_or_before : (o : OpKey) → IsBefore rows (i + 1) o → (k ≡ o) ⊎ IsBefore rows i o
    last_or_before o h = elim (cases_lt h.0 i) [
      | inl less ↦ inr (h.0, h.1, less, h.3)
      | inr le ↦
          let here : h.0 ≡ i = omega (arith, le, h.2) in
          inl (some_pair_parts k o op h.1 (sym row ∙ ap (slice_get rows) (sym here) ∙ h.3)).0
    ]

    smaller : (o : OpKey) → Contains found o → operation_cmp o k ≡ Less
    smaller o has = let b = ((many.counted.2 o).0 has).0 in keys_ascend operation_cmp_total rows sorted b.0 i o k b.1 op b.3 row b.2

    rises : S k → IsCount (λ o. IsBefore rows (i + 1) o × S o) (n + 1)
    rises is = (
      found ++ k ∷ [],
      sorted_pushed operation_cmp found k many.counted.1 smaller,
      λ o. (there o, back o),
      length-append found (k ∷ []) ∙ ap (λ m. m + 1) many.counted.3,
    )
      where
        there : (o : OpKey) → Contains (found ++ k ∷ []) o → IsBefore rows (i + 1) o × S o
        there o has = elim (pushed_is found k o has) [
          | inl e ↦ ((i, op, omega arith, subst (λ z. slice_get rows i ≡ Some (z, op)) e row), subst S e is)
          | inr earlier ↦ let h = (many.counted.2 o).0 earlier in (still o h.0, h.1)
        ]

        back : (o : OpKey) → IsBefore rows (i + 1) o × S o → Contains (found ++ k ∷ []) o
        back o h = elim (last_or_before o h.0) [
          | inl e ↦ subst (Contains (found ++ k ∷ [])) e (pushed_last found k)
          | inr before ↦ pushed_earlier found k o ((many.counted.2 o).1 (before, h.1))
        ]

    stays : ¬ (S k) → IsCount (λ o. IsBefore rows (i + 1) o × S o) n
    stays isnt = (found, many.counted.1, λ o. (λ has. let h = (many.counted.2 o).0 has in (still o h.0, h.1), back o), many.counted.3)
      where
        back : (o : OpKey) → IsBefore rows (i + 1) o × S o → Contains found o
        back o h = elim (last_or_before o h.0) [
          | inl e ↦ absurd (isnt (subst S (sym e) h.1))
          | inr before ↦ (many.counted.2 o).1 (before, h.1)
        ]

    -- one more row is gone through
    pub one_more_row : (m : ℕ) → RisesIf (S k) n m → IsSoMany rows (i + 1) S m
    one_more_row m (inl up) = record {
      counted = subst (IsCount (λ o. IsBefore rows (i + 1) o × S o)) (sym up.1) (rises up.0);
      at_most = omega (arith, up.1, many.at_most);
    }
    one_more_row m (inr same) = record {
      counted = subst (IsCount (λ o. IsBefore rows (i + 1) o × S o)) (sym same.1) (stays same.0);
      at_most = omega (arith, same.1, many.at_most);
    }

  -- all rows are gone through
  pub all_counted : ((o : OpKey) → S o → (op : Operation) × (get {R = operation_cmp} (from_entries rows) o ≡ Some op)) → (i n : ℕ)
      → i ≡ length rows → IsSoMany rows i S n → IsCount S n
  all_counted known i n e many = (
    many.counted.0,
    many.counted.1,
    λ o. (
      λ has. ((many.counted.2 o).0 has).1,
      λ s.
          let there = known o s in
          let at = place_of_found operation_cmp operation_cmp_total operation_cmp-IsAntisymmetric rows o there.0 there.1 in
          let within = slice_get_within rows at.0 (o, there.0) at.1 in
          (many.counted.2 o).1 ((at.0, there.0, omega (arith, within, e), at.1), s),
    ),
    many.counted.3,
  )
