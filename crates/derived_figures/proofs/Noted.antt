-- Entries noted at one place after the other.
use Rattle.std.proofs.Common.{◌≡◌, ◌⊎◌, inl, inr, refl, sym, ap, subst, ◌∙◌, ℕ, zero, suc, ◌+◌, List, [], ◌∷◌, ◌++◌, length, slice_get, Some}
use Rattle.std.proofs.lemmas.List.{length-append}
use Rattle.std.proofs.lemmas.Option.{same_Some}
use Rattle.ready_list.specs.declared.entry.ReadyEntry.{ReadyEntry}
use Rattle.plan_model.specs.Contents.{Contents}
use Rattle.derived_figures.specs.Entries.{AreEntriesAt, IsEntryAt}

-- the entries of the first n places are noted
pub record AreNoted (P : Contents) (places : List ℕ) (n : ℕ) (es : List ReadyEntry) : Type 0 where
  pub size : length es ≡ n
  pub each : (k i : ℕ) (e : ReadyEntry) → slice_get places k ≡ Some i → slice_get es k ≡ Some e → IsEntryAt P i e

pushed_cases : {X : Type 0} (xs : List X) (x : X) (j : ℕ) (y : X) → slice_get (xs ++ x ∷ []) j ≡ Some y → ((j ≡ length xs) × (x ≡ y)) ⊎ (slice_get xs j ≡ Some y)
pushed_cases [] x zero y e = inl (refl, let same : x ≡ y = cc in same)
pushed_cases [] x (suc j) y e = cc
pushed_cases (z ∷ xs) x zero y e = inr e
pushed_cases (z ∷ xs) x (suc j) y e = elim (pushed_cases xs x j y e) [ inl at ↦ inl (ap suc at.0, at.1) | inr old ↦ inr old ]

module _ (P : Contents) (places : List ℕ) where
  pub none_noted : (es : List ReadyEntry) → es ≡ [] → AreNoted P places 0 es
  none_noted es none = record { size = ap length none; each = λ k i e at there. let no : slice_get [] k ≡ Some e = ap (λ xs. slice_get xs k) (sym none) ∙ there in cc }

  pub one_noted : (n : ℕ) (es : List ReadyEntry) → AreNoted P places n es → (i : ℕ) → slice_get places n ≡ Some i → (e : ReadyEntry) → IsEntryAt P i e → AreNoted P places (n + 1) (es ++ e ∷ [])
  one_noted n es so_far i at e its = record {
    size = length-append es (e ∷ []) ∙ ap (λ m. m + 1) so_far.size;
    each = λ k j x here there. elim (pushed_cases es e k x there) [
      | inl last ↦
          let same : i ≡ j = same_Some i j (sym at ∙ ap (slice_get places) (sym (last.0 ∙ so_far.size)) ∙ here) in
          subst (IsEntryAt P j) last.1 (subst (λ m. IsEntryAt P m e) same its)
      | inr earlier ↦ so_far.each k j x here earlier
    ];
  }

  pub all_noted : (n : ℕ) (es : List ReadyEntry) → AreNoted P places n es → n ≡ length places → AreEntriesAt P places es
  all_noted n es so_far all = record { size = so_far.size ∙ all; each = so_far.each }
