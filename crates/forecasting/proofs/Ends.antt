-- The first end after a moment, looked for among indices.
use Rattle.std.proofs.Common.{◌≡◌, inl, inr, refl, sym, ◌∙◌, ap, subst, arith, true, false, ℕ, ◌+◌, ◌<◌, ◌≤◌, leb, List, Contains, get_or, length, Option, Some, None, IfSome, slice_get}
use Rattle.std.specs.List.Sorted.{IsNonDecreasingBy, IsPartitionPoint}
use Rattle.std.proofs.lemmas.Bool.{cases_eq, cases_lt, leb-false, leb-true}
use Rattle.std.proofs.lemmas.Option.{get_or_from_slice_get, none-some, same_Some, slice_get-get_or, slice_get_within}
use Rattle.plan_basics.proofs.Members.{place_of}
use Rattle.plan_basics.specs.Minutes.{IsMoment}
use Rattle.plan_basics.specs.declared.keys.OpKey.{OpKey}
use Rattle.plan_model.specs.Contents.{Operation}
use Rattle.forecasting.specs.Turns.{IsEarlier, IsEndAt, IsEndOf, IsReached}

-- the earlier of two
no_first : (second : Option ℕ) → IsEarlier None second second
no_first second = record { one_of = inr refl; reaches_first = λ c h. absurd (none-some h.0 h.1); reaches_second = λ c h. h }

no_second : (first : Option ℕ) → IsEarlier first None first
no_second first = record { one_of = inl refl; reaches_first = λ c h. h; reaches_second = λ c h. absurd (none-some h.0 h.1) }

pub without_first : (first second : Option ℕ) → first ≡ None → IsEarlier first second second
without_first first second e = subst (λ (z : Option ℕ). IsEarlier z second second) (sym e) (no_first second)

pub without_second : (first second : Option ℕ) → second ≡ None → IsEarlier first second first
without_second first second e = subst (λ (z : Option ℕ). IsEarlier first z first) (sym e) (no_second first)

reaches : (first second : Option ℕ) (a b : ℕ) → first ≡ Some a → second ≡ Some b → b ≤ a → (c : ℕ) → IsReached first c → IsReached second c
reaches first second a b one two le c (k, is, within) = let same : k ≡ a = same_Some k a (sym is ∙ one) in (b, two, omega (arith, same, le, within))

pub second_first : (first second : Option ℕ) (a b : ℕ) → first ≡ Some a → second ≡ Some b → b ≤ a → IsEarlier first second second
second_first first second a b one two le = record { one_of = inr refl; reaches_first = reaches first second a b one two le; reaches_second = λ c h. h }

pub first_first : (first second : Option ℕ) (a b : ℕ) → first ≡ Some a → second ≡ Some b → a ≤ b → IsEarlier first second first
first_first first second a b one two le = record { one_of = inl refl; reaches_first = λ c h. h; reaches_second = reaches second first b a two one le }

pub after_both : (m : ℕ) (first second found : Option ℕ) → IsEarlier first second found → IfSome first (λ c. m < c) → IfSome second (λ c. m < c) → IfSome found (λ c. m < c)
after_both m first second found earlier a b = elim earlier.one_of [ inl e ↦ subst (λ (z : Option ℕ). IfSome z (λ c. m < c)) (sym e) a | inr e ↦ subst (λ (z : Option ℕ). IfSome z (λ c. m < c)) (sym e) b ]

-- by its time the duration of the operation at an index is over at c, of the indices before one
abbrev pub IsEndBefore : List (OpKey × Operation) → List ℕ → List (Option ℕ) → ℕ → ℕ → Type 0
IsEndBefore rows places times n c = (k : ℕ) × (i : ℕ) × (since : Option ℕ) × (k < n) × (slice_get places k ≡ Some i) × (slice_get times i ≡ Some since) × IsEndAt rows i since c

pub record IsFirstEndUpTo (rows : List (OpKey × Operation)) (places : List ℕ) (times : List (Option ℕ)) (m n : ℕ) (first : Option ℕ) : Type 0 where
  pub after : IfSome first (λ c. m < c)
  pub reached : (c : ℕ) → IsMoment c → m < c → IsEndBefore rows places times n c → IsReached first c

module _ (rows : List (OpKey × Operation)) (places : List ℕ) (times : List (Option ℕ)) (m : ℕ) where
  pub ends_first : IsFirstEndUpTo rows places times m 0 None
  ends_first = record { after = tt; reached = λ c legal above h. absurd (let less = h.3 in omega (arith, less)) }

  pub ends_next : (n p : ℕ) (z end first next : Option ℕ) → slice_get places n ≡ Some p → slice_get times p ≡ Some z → IfSome end (λ c. m < c) → ((c : ℕ) → IsMoment c → m < c → IsEndAt rows p z c → end ≡ Some c) → IsEarlier first end next
      → IsFirstEndUpTo rows places times m n first → IsFirstEndUpTo rows places times m (n + 1) next
  ends_next n p z end first next at_n at_p later ends earlier so = record {
    after = after_both m first end next earlier so.after later;
    reached = λ c legal above h. elim (cases_eq h.0 n) [
      | inl e ↦ (
          let same : h.1 ≡ p = same_Some h.1 p (sym h.4 ∙ ap (slice_get places) e ∙ at_n) in
          let time : h.2 ≡ z = same_Some h.2 z (sym h.5 ∙ ap (slice_get times) same ∙ at_p) in
          let here : IsEndAt rows p z c = subst (λ k. IsEndAt rows k z c) same (subst (λ (t : Option ℕ). IsEndAt rows h.1 t c) time h.6) in
          earlier.reaches_second c (c, ends c legal above here, omega arith))
      | inr other ↦ earlier.reaches_first c (so.reached c legal above (h.0, h.1, h.2, (let less = h.3 in omega (arith, less, other)), h.4, h.5, h.6))
    ];
  }

  pub ends_all : (n : ℕ) (first : Option ℕ) → length places ≤ n → IsFirstEndUpTo rows places times m n first → (c : ℕ) → IsMoment c → m < c → IsEndOf rows places times c → IsReached first c
  ends_all n first enough so c legal above (i, since, has, at, is) =
      let k = place_of places i has in
      so.reached c legal above (k.0, i, since, (let less = slice_get_within places k.0 i k.1 in omega (arith, less, enough)), k.1, at, is)

-- the first of moments in order after another one
module _ (turns : List ℕ) (up : IsNonDecreasingBy (λ turn. turn) turns) (m past : ℕ) (point : IsPartitionPoint (λ (turn : ℕ). leb turn m ≡ true) (λ (turn : ℕ). leb turn m ≡ false) turns past) where
  pub later : (first : Option ℕ) → first ≡ slice_get turns past → IfSome first (λ c. m < c)
  later None is = tt
  later (Some c) is =
      let less = slice_get_within turns past c (sym is) in
      let value = get_or_from_slice_get turns past c c (sym is) in
      let above = leb-false (get_or turns past c) m (point.1 past c (omega arith) less) in
      omega (arith, above, value)

  pub none_later : length turns ≤ past → (c : ℕ) → Contains turns c → m < c → ⊥
  none_later all c has above =
      let k = place_of turns c has in
      let within = slice_get_within turns k.0 c k.1 in
      let value = get_or_from_slice_get turns k.0 c c k.1 in
      let low = leb-true (get_or turns k.0 c) m (point.0 k.0 c (omega arith) (omega (arith, within, all))) in
      omega (arith, low, value, above)

  pub first_reached : (first : Option ℕ) → first ≡ slice_get turns past → (c : ℕ) → Contains turns c → m < c → IsReached first c
  first_reached first is c has above =
      let k = place_of turns c has in
      let within = slice_get_within turns k.0 c k.1 in
      let value = get_or_from_slice_get turns k.0 c c k.1 in
      elim (cases_lt k.0 past) [
        | inl before ↦ absurd (let low = leb-true (get_or turns k.0 c) m (point.0 k.0 c (omega arith) before) in omega (arith, low, value, above))
        | inr from ↦ (
            let le = up past k.0 c (omega (arith, from)) within in
            (get_or turns past c, is ∙ slice_get-get_or turns past c (omega (arith, from, within)), omega (arith, le, value)))
      ]
