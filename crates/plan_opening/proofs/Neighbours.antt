-- Operations in key order: those of one occurrence are neighbours, and where no two neighbours differ none do.
use Rattle.std.proofs.Common.{◌≡◌, ◌⊎◌, inl, inr, refl, sym, ap, subst, ◌∙◌, true≢false, arith, ℕ, zero, suc, ◌+◌, ◌-◌, ◌<◌, ◌≤◌, Bool, true, false, List, length, slice_get, get_or, Some, Ordering, Less}
use Rattle.std.specs.FinMap.{entries}
use Rattle.std.specs.Map.{keys_of}
use Rattle.std.specs.Ordering.{ordering_then}
use Rattle.std.specs.declared.cmp.Ordering.TheVariants.{Equal, Greater}
use Rattle.std.specs.List.Sorted.{IsStrictlySortedBy}
use Rattle.std.proofs.lemmas.Bool.{cases_lt, cases_order}
use Rattle.std.proofs.lemmas.Option.{same_Some, slice_get-get_or, slice_get_within}
use Rattle.plan_basics.specs.Keys.{occurrence_cmp, occurrence_cmp_total, occurrence_cmp-IsAntisymmetric, operation_cmp, operation_cmp_total}
use Rattle.plan_basics.specs.declared.keys.OpKey.{OpKey}
use Rattle.plan_rows.specs.plan_laws.proofs.Sorted.{not_itself}
use Rattle.plan_model.proofs.Entries.{entries_in_order}
use Rattle.plan_model.specs.Contents.{Contents, Operation}
use Rattle.plan_rows.specs.plan_status.proofs.Ascending.{keys_ascend}
use Rattle.plan_rows.specs.plan_status.proofs.LoadedRows.{row_found, row_of}
use Rattle.status_rules.specs.Classes.{is_live}
use Rattle.status_rules.specs.declared.Mark.{Mark}
use Rattle.status_rules.specs.declared.Mark.TheVariants.{Deleted}
use Rattle.plan_opening.specs.Laws.{AreDeletedAlike, OccurrencesAreDeletedWhole}

-- ---- marks

-- what isn't live is deleted
dead_mark : (m : Mark) → is_live m ≡ false → m ≡ Deleted
dead_mark Deleted dead = refl
dead_mark m dead = cc

-- two marks are alike where either is a deletion if the other is
alike : (m n : Mark) → (m ≡ Deleted → n ≡ Deleted) → (n ≡ Deleted → m ≡ Deleted) → is_live m ≡ is_live n
alike m n there back = by_first (is_live m) refl
  where
    by_second : is_live m ≡ true → (b : Bool) → is_live n ≡ b → is_live m ≡ is_live n
    by_second up true e = up ∙ sym e
    by_second up false e = absurd (true≢false (sym up ∙ ap is_live (back (dead_mark n e))))

    by_first : (b : Bool) → is_live m ≡ b → is_live m ≡ is_live n
    by_first true e = by_second e (is_live n) refl
    by_first false e = e ∙ sym (ap is_live (there (dead_mark m e)))

-- ---- keys

-- by the first part of a key: it is less, or ties
first_part : (x y : Ordering) → ordering_then x y ≡ Less → (x ≡ Less) ⊎ (x ≡ Equal)
first_part Less y e = inl refl
first_part Equal y e = inr refl
first_part Greater y e = cc

-- what comes between two operations of an occurrence is of it too
between : (a m b : OpKey) → operation_cmp a m ≡ Less → operation_cmp m b ≡ Less → a.occurrence ≡ b.occurrence → a.occurrence ≡ m.occurrence
between a m b low high same = elim (first_part (occurrence_cmp a.occurrence m.occurrence) _ low) [
  | inr tie ↦ occurrence_cmp-IsAntisymmetric a.occurrence m.occurrence tie
  | inl up ↦ absurd (elim (first_part (occurrence_cmp m.occurrence b.occurrence) _ high) [
    | inl more ↦ never (occurrence_cmp_total.trans a.occurrence m.occurrence b.occurrence up more)
    | inr tie ↦ never (subst (λ z. occurrence_cmp a.occurrence z ≡ Less) (occurrence_cmp-IsAntisymmetric m.occurrence b.occurrence tie) up)
  ])
]
  where
    never : occurrence_cmp a.occurrence b.occurrence ≡ Less → ⊥
    never less = not_itself occurrence_cmp_total b.occurrence (subst (λ z. occurrence_cmp z b.occurrence ≡ Less) same less)

-- ---- rows

-- two neighbours among the first rows are deleted alike
abbrev pub AreAlikeBefore : List (OpKey × Operation) → ℕ → Type 0
AreAlikeBefore rows i = (k : ℕ) (a b : OpKey × Operation) → k + 1 < i → slice_get rows k ≡ Some a → slice_get rows (k + 1) ≡ Some b → AreDeletedAlike a b

module _ (rows : List (OpKey × Operation)) where
  pub alike_first : AreAlikeBefore rows 1
  alike_first k a b less at next = absurd (omega (arith, less))

  pub alike_more : (i : ℕ) (a b : OpKey × Operation) → 1 ≤ i → slice_get rows (i - 1) ≡ Some a → slice_get rows i ≡ Some b → AreDeletedAlike a b → AreAlikeBefore rows i → AreAlikeBefore rows (i + 1)
  alike_more i a b one at next this before k c d less there after = elim (cases_lt (k + 1) i) [
    | inl earlier ↦ before k c d earlier there after
    | inr later ↦
        let here : k ≡ i - 1 = omega (arith, later, less, one) in
        let here' : k + 1 ≡ i = omega (arith, later, less) in
        let first : a ≡ c = same_Some a c (sym at ∙ ap (slice_get rows) (sym here) ∙ there) in
        let second : b ≡ d = same_Some b d (sym next ∙ ap (slice_get rows) (sym here') ∙ after) in
        subst (λ z. AreDeletedAlike c z) second (subst (λ z. AreDeletedAlike z b) first this)
  ]

  module _ (sorted : IsStrictlySortedBy operation_cmp (keys_of rows)) (i : ℕ) (past : length rows ≤ i) (before : AreAlikeBefore rows i) where
    -- so are two rows further apart
    alike_after : (d k : ℕ) (a b : OpKey × Operation) → slice_get rows k ≡ Some a → slice_get rows (k + d + 1) ≡ Some b → AreDeletedAlike a b
    alike_after zero k a b at next same =
        let here : k + 0 + 1 ≡ k + 1 = omega arith in
        let next' : slice_get rows (k + 1) ≡ Some b = ap (slice_get rows) (sym here) ∙ next in
        let within = slice_get_within rows (k + 1) b next' in
        before k a b (omega (arith, within, past)) at next' same
    alike_after (suc d) k a b at next same =
        let j = k + d + 1 in
        let here : k + suc d + 1 ≡ j + 1 = omega arith in
        let next' : slice_get rows (j + 1) ≡ Some b = ap (slice_get rows) (sym here) ∙ next in
        let within = slice_get_within rows (j + 1) b next' in
        let m = get_or rows j b in
        let middle : slice_get rows j ≡ Some m = slice_get-get_or rows j b (omega (arith, within)) in
        let low = keys_ascend operation_cmp_total rows sorted k j a.0 m.0 a.1 m.1 at middle (omega arith) in
        let high = keys_ascend operation_cmp_total rows sorted j (j + 1) m.0 b.0 m.1 b.1 middle next' (omega arith) in
        let its : a.0.occurrence ≡ m.0.occurrence = between a.0 m.0 b.0 low high same in
        alike_after d k a m at middle its ∙ before j m b (omega (arith, within, past)) middle next' (sym its ∙ same)

    alike_later : (k j : ℕ) (a b : OpKey × Operation) → k < j → slice_get rows k ≡ Some a → slice_get rows j ≡ Some b → AreDeletedAlike a b
    alike_later k j a b less at next =
        let here : k + (j - k - 1) + 1 ≡ j = omega (arith, less) in
        alike_after (j - k - 1) k a b at (ap (slice_get rows) here ∙ next)

    pub all_alike : (k j : ℕ) (a b : OpKey × Operation) → slice_get rows k ≡ Some a → slice_get rows j ≡ Some b → AreDeletedAlike a b
    all_alike k j a b at next same = elim (cases_order k j) [
      | inl here ↦ ap (λ (z : OpKey × Operation). is_live z.1.mark) (same_Some a b (sym at ∙ ap (slice_get rows) here ∙ next))
      | inr (inl less) ↦ alike_later k j a b less at next same
      | inr (inr more) ↦ sym (alike_later j k b a more next at (sym same))
    ]

module _ (P : Contents) where
  -- where no two neighbours differ, each occurrence is deleted whole
  pub whole : (i : ℕ) → length (entries P.operations) ≤ i → AreAlikeBefore (entries P.operations) i → OccurrencesAreDeletedWhole P
  whole i past before a b same deleted op is =
      let first = row_of P a deleted.0 deleted.1 in
      let second = row_of P b op is in
      let alike = all_alike (entries P.operations) (entries_in_order operation_cmp P.operations) i past before first.0 second.0 (a, deleted.0) (b, op) first.1 second.1 same in
      dead_mark op.mark (sym alike ∙ ap is_live deleted.2)

  -- and where each is, no two rows differ
  pub alike_by_whole : OccurrencesAreDeletedWhole P → (k j : ℕ) (a b : OpKey × Operation) → slice_get (entries P.operations) k ≡ Some a → slice_get (entries P.operations) j ≡ Some b → AreDeletedAlike a b
  alike_by_whole all k j a b at next same =
      let first = row_found P k a.0 a.1 at in
      let second = row_found P j b.0 b.1 next in
      alike a.1.mark b.1.mark (λ dead. all a.0 b.0 same (a.1, first, dead) b.1 second) (λ dead. all b.0 a.0 (sym same) (b.1, second, dead) a.1 first)
