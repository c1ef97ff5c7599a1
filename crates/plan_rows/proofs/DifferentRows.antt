-- The rows that differ among those at some places, and what they are in the whole table.
use Rattle.std.proofs.Common.{◌≡◌, ◌≢◌, ◌⊎◌, ◌↔◌, inl, inr, refl, sym, ap, ap₂, subst, ◌∙◌, arith, ℕ, zero, suc, ◌+◌, ◌<◌, ◌≤◌, List, [], ◌∷◌, ◌++◌, length, take, get_or, slice_get, Contains, Some}
use Rattle.std.specs.Cmp.{IsTotalOrder}
use Rattle.std.specs.List.Sorted.{IsStrictlySortedBy}
use Rattle.std.specs.Ordering.{nat_cmp}
use Rattle.std.specs.declared.cmp.Ordering.{Ordering}
use Rattle.std.specs.declared.cmp.Ordering.TheVariants.{Less}
use Rattle.std.proofs.lemmas.Bool.{cases_eq}
use Rattle.std.proofs.lemmas.List.{append-nil, append_assoc, take_all, take_more}
use Rattle.std.proofs.lemmas.List.Elements.{Contains-append_left, Contains-push, Contains-push_cases}
use Rattle.std.proofs.lemmas.Option.{slice_get-get_or}
use Rattle.plan_basics.proofs.Members.{contains_cases, contains_head, contains_later, contains_none, place_of}
use Rattle.plan_records.specs.plan_drafts.proofs.KeyPlaces.{one_place}
use Rattle.row_differences.proofs.Joined.{map_joined}
use Rattle.row_differences.proofs.Merging.{key_within, lower}
use Rattle.row_differences.specs.Changes.{AreAt}
use Rattle.row_differences.specs.Differences.{AreDifferences, HaveOneKey}
use Rattle.plan_rows.proofs.NoRows.{none_ascend}
use Rattle.plan_rows.specs.Touched.{AreDifferentAmong}
use Rattle.derived_figures.specs.plan_status.proofs.Ascending.{sorted_pushed}

-- a number is among these, or it isn't
pub among_or_not : (xs : List ℕ) (i : ℕ) → Contains xs i ⊎ ¬ Contains xs i
among_or_not [] i = inr (contains_none i)
among_or_not (x ∷ xs) i = elim (cases_eq x i) [
  | inl same ↦ inl (subst (Contains (x ∷ xs)) same (contains_head x xs))
  | inr other ↦ elim (among_or_not xs i) [
    | inl later ↦ inl (contains_later x xs i later)
    | inr not ↦ inr (λ has. elim (contains_cases x xs i has) [ inl same ↦ other same | inr later ↦ not later ])
  ]
]

-- what is at an index of the first of them is there in all
from_taken : {X : Type 0} (k : ℕ) (xs : List X) (i : ℕ) (x : X) → slice_get (take k xs) i ≡ Some x → (i < k) × (slice_get xs i ≡ Some x)
from_taken zero xs i x e = absurd (cc)
from_taken (suc k) [] i x e = absurd (cc)
from_taken (suc k) (y ∷ xs) zero x e = (omega arith, e)
from_taken (suc k) (y ∷ xs) (suc i) x e = let h = from_taken k xs i x e in let lt = h.0 in (omega (arith, lt), h.1)

-- in ascending order the first ones are below the next one
taken_below : (xs : List ℕ) (k : ℕ) → IsStrictlySortedBy nat_cmp xs → k < length xs → (m : ℕ) → Contains (take k xs) m → nat_cmp m (get_or xs k 0) ≡ Less
taken_below xs k up lt m has =
    let at = place_of (take k xs) m has in
    let there = from_taken k xs at.0 m at.1 in
    lower nat_cmp xs at.0 k m (get_or xs k 0) up there.0 there.1 (slice_get-get_or xs k 0 lt)

module _ {X : Type 0} (olds news : List X) (places : List ℕ) where
  -- old is followed by the rows that differ at the first k of these places
  abbrev pub IsToldTo : ℕ → List X → List X → Type 0
  IsToldTo k old new = (different : List ℕ) × (more : List X) × AreDifferentAmong olds news (take k places) different × AreAt news different more × (new ≡ old ++ more)

  pub told_none : (old : List X) → IsToldTo 0 old old
  told_none old = ([], [], record { ascend = none_ascend nat_cmp; has = λ i. (λ has. absurd (contains_none i has), λ h. absurd (contains_none i h.0)) }, refl, sym (append-nil old))

  module _ (up : IsStrictlySortedBy nat_cmp places) (k : ℕ) (lt : k < length places) (old new : List X) (h : IsToldTo k old new) where
    abbrev next : ℕ
    next = get_or places k 0

    abbrev front : List ℕ
    front = take k places

    taken : take (k + 1) places ≡ front ++ next ∷ []
    taken = take_more places k 0 lt

    -- the row there differs
    pub told_different : (r : X) → slice_get news next ≡ Some r → slice_get olds next ≢ slice_get news next → IsToldTo (k + 1) old (new ++ r ∷ [])
    told_different r at differs =
        let (different, more, are, at_more, is) = h in (
          different ++ next ∷ [],
          more ++ r ∷ [],
          subst (λ ps. AreDifferentAmong olds news ps (different ++ next ∷ [])) (sym taken) (record {
            ascend = sorted_pushed nat_cmp different next are.ascend (λ m has. taken_below places k up lt m ((are.has m).0 has).0);
            has = λ m. (among different are m, all different are m);
          }),
          map_joined (slice_get news) different (next ∷ []) ∙ (ap₂ (λ a b. a ++ b ∷ []) at_more at ∙ sym (map_joined Some more (r ∷ []))),
          ap (λ xs. xs ++ r ∷ []) is ∙ append_assoc old more (r ∷ []),
        )
      where
        among : (different : List ℕ) → AreDifferentAmong olds news front different → (m : ℕ) → Contains (different ++ next ∷ []) m → Contains (front ++ next ∷ []) m × (slice_get olds m ≢ slice_get news m)
        among different are m has = elim (Contains-push_cases different next m has) [
          | inl earlier ↦ let g = (are.has m).0 earlier in (Contains-append_left front (next ∷ []) m g.0, g.1)
          | inr last ↦ (subst (Contains (front ++ next ∷ [])) last (Contains-push front next), subst (λ z. slice_get olds z ≢ slice_get news z) last differs)
        ]

        all : (different : List ℕ) → AreDifferentAmong olds news front different → (m : ℕ) → Contains (front ++ next ∷ []) m × (slice_get olds m ≢ slice_get news m) → Contains (different ++ next ∷ []) m
        all different are m g = elim (Contains-push_cases front next m g.0) [
          | inl earlier ↦ Contains-append_left different (next ∷ []) m ((are.has m).1 (earlier, g.1))
          | inr last ↦ subst (Contains (different ++ next ∷ [])) last (Contains-push different next)
        ]

    -- the row there stays
    pub told_same : slice_get olds next ≡ slice_get news next → IsToldTo (k + 1) old new
    told_same same =
        let (different, more, are, at_more, is) = h in (
          different,
          more,
          subst (λ ps. AreDifferentAmong olds news ps different) (sym taken) (record {
            ascend = are.ascend;
            has = λ m. (λ has. let g = (are.has m).0 has in (Contains-append_left front (next ∷ []) m g.0, g.1), all different are m);
          }),
          at_more,
          is,
        )
      where
        all : (different : List ℕ) → AreDifferentAmong olds news front different → (m : ℕ) → Contains (front ++ next ∷ []) m × (slice_get olds m ≢ slice_get news m) → Contains different m
        all different are m g = elim (Contains-push_cases front next m g.0) [
          | inl earlier ↦ (are.has m).1 (earlier, g.1)
          | inr last ↦ absurd (g.1 (subst (λ z. slice_get olds z ≡ slice_get news z) last same))
        ]

  pub told_all : (k : ℕ) (old new : List X) → length places ≤ k → IsToldTo k old new → (different : List ℕ) × (more : List X) × AreDifferentAmong olds news places different × AreAt news different more × (new ≡ old ++ more)
  told_all k old new end (different, more, are, at_more, is) = (different, more, subst (λ ps. AreDifferentAmong olds news ps different) (take_all k places end) are, at_more, is)

-- under the same keys, with all other rows as they were, what differs among these is what differs in the table
module _ {K : Type 0} {R : K → K → Ordering} (o : IsTotalOrder R) {X : Type 0} where
  pub all_differences : (before after : List K) → after ≡ before → IsStrictlySortedBy R before → (olds news : List X) (IsAlike : ℕ → ℕ → Type 0) → ((i j : ℕ) → HaveOneKey before after i j → IsAlike i j ↔ (slice_get olds i ≡ slice_get news j))
      → (places different : List ℕ) → ((i : ℕ) → Contains places i → i < length before) → ((i : ℕ) → ¬ Contains places i → slice_get news i ≡ slice_get olds i) → AreDifferentAmong olds news places different → AreDifferences before after IsAlike different []
  all_differences before after same up olds news IsAlike alike places different within elsewhere are = record {
    changed_ascend = are.ascend;
    has_changed = λ j. (changed j, told j);
    gone_ascend = none_ascend nat_cmp;
    has_gone = λ i. (λ has. absurd (contains_none i has), λ gone. absurd (gone.1 i (own i gone.0)));
  }
    where
      own : (i : ℕ) → i < length before → HaveOneKey before after i i
      own i lt = let (k, at) = key_within before i lt in (k, at, ap (λ ks. slice_get ks i) same ∙ at)

      changed : (j : ℕ) → Contains different j → (j < length after) × ((i : ℕ) → HaveOneKey before after i j → ¬ IsAlike i j)
      changed j has =
          let (among, differs) = (are.has j).0 has in (
            subst (λ ks. j < length ks) (sym same) (within j among),
            λ i one is.
                let i_is_j : i ≡ j = one_place o before up i j one.0 one.1 (ap (λ ks. slice_get ks j) (sym same) ∙ one.2) in
                differs (subst (λ z. slice_get olds z ≡ slice_get news j) i_is_j ((alike i j one).0 is)),
          )

      told : (j : ℕ) → (j < length after) × ((i : ℕ) → HaveOneKey before after i j → ¬ IsAlike i j) → Contains different j
      told j (lt, not) =
          let one = own j (subst (λ ks. j < length ks) same lt) in
          let differs : slice_get olds j ≢ slice_get news j = λ e. not j one ((alike j j one).1 e) in
          elim (among_or_not places j) [
            | inl among ↦ (are.has j).1 (among, differs)
            | inr other ↦ absurd (differs (sym (elsewhere j other)))
          ]
