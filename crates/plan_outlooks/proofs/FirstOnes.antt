-- The first operation in key order of which something is so, by the indices of rows.
use Rattle.std.proofs.Common.{◌≡◌, ◌⊎◌, inl, inr, refl, sym, ◌∙◌, ap, subst, arith, ℕ, ◌+◌, ◌<◌, ◌≤◌, length, List, Option, Some, None, slice_get, Less}
use Rattle.std.specs.Prelude.{IsSome, MatchOption}
use Rattle.std.specs.FinMap.{entries}
use Rattle.std.proofs.lemmas.Bool.{cases_lt, cases_order}
use Rattle.std.proofs.lemmas.Option.{same_Some, slice_get_within}
use Rattle.plan_basics.specs.Keys.{operation_cmp, operation_cmp_total}
use Rattle.plan_basics.specs.declared.keys.OpKey.{OpKey}
use Rattle.plan_forecast.specs.plan_laws.proofs.Sorted.{not_itself}
use Rattle.plan_model.proofs.Entries.{entries_in_order}
use Rattle.plan_model.specs.Contents.{IsInPlan, Operation}
use Rattle.plan_reasons.specs.plan_core.specs.plan_status.proofs.Ascending.{keys_ascend}
use Rattle.plan_outlooks.specs.Forecasts.{Forecast}
use Rattle.plan_outlooks.specs.Lent.{IsOfRow}
use Rattle.plan_outlooks.specs.PathParts.{IsFirstIn}
use Rattle.plan_outlooks.proofs.OperationRows.{row_of}

module _ (F : Forecast) where
  -- one operation has its row at an index
  pub one_key : (i : ℕ) (o p : OpKey) → IsOfRow F i o → IsOfRow F i p → o ≡ p
  one_key i o p at there = ap (λ (z : OpKey × Operation). z.0) (same_Some (o, at.0) (p, there.0) (sym at.1 ∙ there.1))

  pub index_of : (o : OpKey) → IsInPlan F.plan.contents o → (i : ℕ) × IsOfRow F i o
  index_of o h = let r = row_of F.plan.contents o h.0 h.1 in (r.0, (h.0, r.1))

  pub row_within : (i : ℕ) (o : OpKey) → IsOfRow F i o → i < length (entries F.plan.contents.operations)
  row_within i o at = slice_get_within (entries F.plan.contents.operations) i (o, at.0) at.1

  -- what stands at no smaller index doesn't come before in key order
  pub not_less : (i j : ℕ) (o q : OpKey) → IsOfRow F i o → IsOfRow F j q → i ≤ j → ¬ (operation_cmp q o ≡ Less)
  not_less i j o q at there le less = elim (cases_order i j) [
    | inl same ↦ not_itself operation_cmp_total o (subst (λ z. operation_cmp z o ≡ Less) (one_key j q o there (subst (λ k. IsOfRow F k o) same at)) less)
    | inr (inl lt) ↦ not_itself operation_cmp_total q
        (operation_cmp_total.trans q o q less (keys_ascend operation_cmp_total (entries F.plan.contents.operations) (entries_in_order operation_cmp F.plan.contents.operations) i j o q at.0 there.0 at.1 there.1 lt))
    | inr (inr gt) ↦ absurd (omega (arith, le, gt))
  ]

-- it is so of none at an index before this one
abbrev pub NoneBefore : Forecast → (OpKey → Type 0) → ℕ → Type 0
NoneBefore F IsSo n = (i : ℕ) (o : OpKey) → IsOfRow F i o → i < n → ¬ IsSo o

pub none_first : (F : Forecast) (IsSo : OpKey → Type 0) → NoneBefore F IsSo 0
none_first F IsSo i o at before = absurd (omega (arith, before))

pub none_more : (F : Forecast) (IsSo : OpKey → Type 0) (n : ℕ) → NoneBefore F IsSo n → ((o : OpKey) → IsOfRow F n o → ¬ IsSo o) → NoneBefore F IsSo (n + 1)
none_more F IsSo n before this i o at within = elim (cases_lt i n) [
  | inl earlier ↦ before i o at earlier
  | inr later ↦ let same : i ≡ n = omega (arith, within, later) in this o (subst (λ k. IsOfRow F k o) same at)
]

module _ (F : Forecast) (IsSo : OpKey → Type 0) (known : (o : OpKey) → IsSo o → IsInPlan F.plan.contents o) where
  pub first_here : (n : ℕ) (o : OpKey) → IsOfRow F n o → IsSo o → NoneBefore F IsSo n → IsFirstIn F IsSo (Some n)
  first_here n o at is before = (
    o,
    at,
    (
      is,
      λ q so less.
          let i = index_of F q (known q so) in
          elim (cases_lt i.0 n) [
            | inl earlier ↦ before i.0 q i.1 earlier so
            | inr later ↦ not_less F n i.0 o q at i.1 later less
          ],
    ),
  )

  pub first_nowhere : (n : ℕ) → length (entries F.plan.contents.operations) ≤ n → NoneBefore F IsSo n → IsFirstIn F IsSo None
  first_nowhere n all before p so = let i = index_of F p (known p so) in let within = row_within F i.0 p i.1 in before i.0 p i.1 (omega (arith, within, all)) so

-- ---- among some indices in any order

-- the least of those at indices so far at which it is so
abbrev pub IsLeastOf : Forecast → (OpKey → Type 0) → (ℕ → Type 0) → Option ℕ → Type 0
IsLeastOf F IsSo IsAmong first =
    MatchOption first ((i : ℕ) (o : OpKey) → IsAmong i → IsOfRow F i o → ¬ IsSo o)
    (λ f. ((p : OpKey) × IsOfRow F f p × IsSo p) × ((i : ℕ) (o : OpKey) → IsAmong i → IsOfRow F i o → IsSo o → f ≤ i))

module _ (F : Forecast) (IsSo : OpKey → Type 0) where
  -- where it is so at each index that is among them or isn't so, the least of them is the first of all
  pub first_of_least : (IsAmong : ℕ → Type 0) → ((i : ℕ) (o : OpKey) → IsOfRow F i o → IsSo o → IsAmong i) → ((o : OpKey) → IsSo o → IsInPlan F.plan.contents o)
      → (first : Option ℕ) → IsLeastOf F IsSo IsAmong first → IsFirstIn F IsSo first
  first_of_least IsAmong all known None none = λ p so. let i = index_of F p (known p so) in none i.0 p (all i.0 p i.1 so) i.1 so
  first_of_least IsAmong all known (Some f) least =
      let p = least.0 in
      (p.0, p.1, (p.2, λ q so less. let i = index_of F q (known q so) in not_less F f i.0 p.0 q p.1 i.1 (least.1 i.0 q (all i.0 q i.1 so) i.1 so) less))

-- the first k of these indices
abbrev pub AreFirst : List ℕ → ℕ → ℕ → Type 0
AreFirst items k i = (j : ℕ) × (j < k) × (slice_get items j ≡ Some i)

-- what is at index k, and what is before it
last_or_before : (items : List ℕ) (k i other : ℕ) → slice_get items k ≡ Some other → AreFirst items (k + 1) i → (i ≡ other) ⊎ AreFirst items k i
last_or_before items k i other at (j, within, there) = elim (cases_lt j k) [
  | inl before ↦ inr (j, before, there)
  | inr on ↦ let same : j ≡ k = omega (arith, within, on) in inl (same_Some i other (sym there ∙ ap (slice_get items) same ∙ at))
]

module _ (F : Forecast) (IsSo : OpKey → Type 0) (items : List ℕ) where
  pub none_least : IsLeastOf F IsSo (AreFirst items 0) None
  none_least = λ i o among. let within = among.1 in absurd (omega (arith, within))

  module _ (k other : ℕ) (at : slice_get items k ≡ Some other) where
    -- it isn't so at the next index
    pub least_still : (first : Option ℕ) → IsLeastOf F IsSo (AreFirst items k) first → ((o : OpKey) → IsOfRow F other o → ¬ IsSo o) → IsLeastOf F IsSo (AreFirst items (k + 1)) first
    least_still None none never = λ i o among row so. elim (last_or_before items k i other at among) [
      | inl this ↦ never o (subst (λ z. IsOfRow F z o) this row) so
      | inr before ↦ none i o before row so
    ]
    least_still (Some f) least never = (
      least.0,
      λ i o among row so. elim (last_or_before items k i other at among) [
        | inl this ↦ absurd (never o (subst (λ z. IsOfRow F z o) this row) so)
        | inr before ↦ least.1 i o before row so
      ],
    )

    -- it is
    pub least_with : (p : OpKey) → IsOfRow F other p → IsSo p → (first : Option ℕ) → IsLeastOf F IsSo (AreFirst items k) first → (n : ℕ)
        → MatchOption first (n ≡ other) (λ f. (n ≤ f) × (n ≤ other) × ((n ≡ f) ⊎ (n ≡ other))) → IsLeastOf F IsSo (AreFirst items (k + 1)) (Some n)
    least_with p row so None none n is = (
      (p, subst (λ z. IsOfRow F z p) (sym is) row, so),
      λ i o among there its. elim (last_or_before items k i other at among) [ inl this ↦ omega (arith, this, is) | inr before ↦ absurd (none i o before there its) ],
    )
    least_with p row so (Some f) least n (low, this_low, which) = (
      elim which [
        | inl old ↦ (least.0.0, subst (λ z. IsOfRow F z least.0.0) (sym old) least.0.1, least.0.2)
        | inr new ↦ (p, subst (λ z. IsOfRow F z p) (sym new) row, so)
      ],
      λ i o among there its. elim (last_or_before items k i other at among) [ inl this ↦ omega (arith, this, this_low) | inr before ↦ (let le = least.1 i o before there its in omega (arith, le, low)) ],
    )

-- where it is so of one there is a first
pub some_first : (F : Forecast) (IsSo : OpKey → Type 0) (found : Option ℕ) → IsFirstIn F IsSo found → (p : OpKey) → IsSo p → IsSome found
some_first F IsSo None none p so = absurd (none p so)
some_first F IsSo (Some i) first p so = refl
