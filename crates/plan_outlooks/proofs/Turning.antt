-- When operations begin, one after another, and by minute.
use Rattle.std.proofs.Common.{◌≡◌, inl, inr, refl, sym, ◌∙◌, ap, subst, arith, ℕ, zero, suc, ◌⊎◌, ◌+◌, ◌≤◌, List, [], ◌∷◌, ◌++◌, Contains, get_or, length, slice_get, Option, Some}
use Rattle.std.specs.FinMap.{entries}
use Rattle.std.specs.List.Sorted.{IsNonDecreasingBy, IsPermutation}
use Rattle.std.proofs.lemmas.List.{length-append}
use Rattle.std.proofs.lemmas.List.Sorted.{Contains-permutation, IsPermutation-sym}
use Rattle.std.proofs.lemmas.Option.{get_or_from_slice_get, same_Some, slice_get-get_or, slice_get_within}
use Rattle.plan_basics.proofs.Members.{at_place, contains_none, place_of}
use Rattle.plan_reasons.specs.plan_drafts.proofs.RowPlaces.{row_at}
use Rattle.plan_model.specs.Contents.{Contents}
use Rattle.plan_outlooks.specs.Replays.{AreTurnsOf, AreTurnsUpTo, IsTurnOf}
use Rattle.plan_outlooks.specs.declared.lacks.Turn.{Turn}

module _ (P : Contents) (since done : List (Option ℕ)) (from : ℕ) where
  pub no_turns : AreTurnsUpTo P since done from 0 []
  no_turns = record { size = refl; each = λ i t at. absurd (contains_none t (at_place [] i t at)) }

  -- what stands in a list with one more at its end
  last_or : (turns : List Turn) (t : Turn) (i : ℕ) (u : Turn) → slice_get (turns ++ t ∷ []) i ≡ Some u → (slice_get turns i ≡ Some u) ⊎ ((i ≡ length turns) × (t ≡ u))
  last_or [] t zero u at = inr (refl, same_Some t u at)
  last_or [] t (suc i) u at = absurd (contains_none u (at_place [] i u at))
  last_or (x ∷ turns) t zero u at = inl at
  last_or (x ∷ turns) t (suc i) u at = elim (last_or turns t i u at) [ inl before ↦ inl before | inr last ↦ inr (ap suc last.0, last.1) ]

  pub turn_more : (n : ℕ) (turns : List Turn) (t : Turn) → IsTurnOf P since done from n t → AreTurnsUpTo P since done from n turns → AreTurnsUpTo P since done from (n + 1) (turns ++ t ∷ [])
  turn_more n turns t is so = record {
    size = (let l = length-append turns (t ∷ []) in let s = so.size in omega (arith, l, s));
    each = λ i u at. elim (last_or turns t i u at) [
      | inl before ↦ so.each i u before
      | inr last ↦ subst (λ z. IsTurnOf P since done from i z) last.1 (subst (λ k. IsTurnOf P since done from k t) (sym so.size ∙ sym last.0) is)
    ];
  }

  module _ (turns sorted : List Turn) (are : AreTurnsUpTo P since done from (length (entries P.operations)) turns) (same : IsPermutation turns sorted) (up : IsNonDecreasingBy (λ (t : Turn). t.at) sorted) where
    -- each that is there stands at its place at first
    its_own : (k : ℕ) (t : Turn) → slice_get sorted k ≡ Some t → slice_get turns t.place ≡ Some t
    its_own k t at =
        let has : Contains turns t = Contains-permutation sorted turns t (IsPermutation-sym turns sorted same) (at_place sorted k t at) in
        let p = place_of turns t has in
        subst (λ z. slice_get turns z ≡ Some t) (sym (are.each p.0 t p.1).place) p.1

    pub turns_are : AreTurnsOf P since done from sorted
    turns_are = record {
      in_order = λ j k t u le at_j at_k.
          let within = slice_get_within sorted k u at_k in
          let first = get_or_from_slice_get sorted j t t at_j in
          let second = get_or_from_slice_get sorted k u t at_k in
          let up_to = up j k t le within in
          subst (λ (z : Turn). z.at ≤ u.at) first (subst (λ (z : Turn). (get_or sorted j t).at ≤ z.at) second up_to);
      single = λ j k t u at_j at_k one. same_Some t u (sym (its_own j t at_j) ∙ ap (slice_get turns) one ∙ its_own k u at_k);
      within = λ k d less. (
          let t = get_or sorted k d in
          let own = its_own k t (slice_get-get_or sorted k d less) in
          let room = slice_get_within turns t.place t own in
          let size = are.size in
          omega (arith, room, size));
      every = λ i less. (
          let r = row_at turns i (let size = are.size in omega (arith, less, size)) in
          let k = place_of sorted r.0 (Contains-permutation turns sorted r.0 same (at_place turns i r.0 r.1)) in
          (k.0, r.0, k.1, are.each i r.0 r.1));
    }
