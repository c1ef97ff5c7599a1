-- Counts of groups, and the last place of each, as places are gone through one by one.
use Rattle.std.proofs.Common.{◌≡◌, inl, inr, refl, sym, ap, subst, ◌∙◌, true≢false, arith, ℕ, suc, ◌+◌, ◌-◌, ◌≤◌, true, false, cond, List, [], ◌∷◌, ◌++◌, length, get_or, slice_get, Option, Some, None, unwrap_or}
use Rattle.std.specs.Map.{lookup}
use Rattle.std.specs.BTreeMap.{BTreeMap, is_at}
use Rattle.std.proofs.lemmas.Bool.{cases_lt}
use Rattle.std.proofs.lemmas.Option.{same_Some, slice_get_within}
use Rattle.std.proofs.lemmas.List.{get_or_append_left, get_or-append_right}
use Rattle.plan_basics.proofs.Members.{tied_is}
use Rattle.plan_drafts.proofs.Tables.{itself}
use Rattle.record_faults.specs.declared.groups.Group.{Group}
use Rattle.record_faults.specs.contracts.groups.GroupOrd.TheImpl as derived
use Rattle.record_faults.specs.contracts.groups.GroupOrd.TheImpl.Laws as laws
use Rattle.record_faults.specs.Sayings.{IsGiven}
use Rattle.record_faults.specs.Groups.{is_of, count_of, kept_for, AreCounts, IsLast, IsLastIfAny, AreLast, AreLinked, AreEarlier}
use Rattle.record_faults.proofs.GroupOrder.{exact}
use Rattle.record_faults.proofs.Indexes.{one_given, none_given}

-- ---- counts
-- one group more at the end
pub count_more : (g : Group) (groups : List (Option Group)) (o : Option Group) → count_of g (groups ++ o ∷ []) ≡ count_of g groups + cond (is_of g o) 1 0
count_more g [] o = omega arith
count_more g (p ∷ groups) o = let rest = count_more g groups o in omega (arith, rest)

-- no more than there are places
pub count_within : (g : Group) (groups : List (Option Group)) → count_of g groups ≤ length groups
count_within g [] = omega arith
count_within g (p ∷ groups) = elim (is_of g p) as (λ b. cond b 1 0 + count_of g groups ≤ suc (length groups)) [
  | true ↦ let rest = count_within g groups in omega (arith, rest)
  | false ↦ let rest = count_within g groups in omega (arith, rest)
]

-- nothing is counted yet
pub no_counts : (counts : BTreeMap Group ℕ) → counts.entries ≡ [] → AreCounts [] counts
no_counts counts empty g = ap (λ es. unwrap_or (lookup (is_at (derived.ghosts.cmp g)) es) 0) empty

-- a place of no group changes no count
pub counts_none : (before : List (Option Group)) (counts : BTreeMap Group ℕ) → AreCounts before counts → AreCounts (before ++ None ∷ []) counts
counts_none before counts are g = let more = count_more g before None in are g ∙ omega (arith, more)

-- a place of a group counts one more
pub counts_more :
    (before : List (Option Group)) (old new : BTreeMap Group ℕ) (key : Group) (count : ℕ) → count ≡ unwrap_or (kept_for old key) 0 →
    ((q : Group) → kept_for new q ≡ cond (is_at (derived.ghosts.cmp key) q) (Some (count + 1)) (kept_for old q)) → AreCounts before old → AreCounts (before ++ Some key ∷ []) new
counts_more before old new key count is updates are g = elim (is_of g (Some key)) as (λ b. is_of g (Some key) ≡ b → unwrap_or (kept_for new g) 0 ≡ count_of g (before ++ Some key ∷ [])) [
  | true ↦ λ t.
      let same : key ≡ g = tied_is exact key g t in
      let now : kept_for new g ≡ Some (count + 1) = updates g ∙ ap (λ b. cond b (Some (count + 1)) (kept_for old g)) t in
      let old_count : count ≡ count_of g before = is ∙ ap (λ z. unwrap_or (kept_for old z) 0) same ∙ are g in
      let one : count_of g (before ++ Some key ∷ []) ≡ count_of g before + 1 = count_more g before (Some key) ∙ ap (λ b. count_of g before + cond b 1 0) t in
      ap (λ o. unwrap_or o 0) now ∙ omega (arith, old_count, one)
  | false ↦ λ t.
      let now : kept_for new g ≡ kept_for old g = updates g ∙ ap (λ b. cond b (Some (count + 1)) (kept_for old g)) t in
      let one : count_of g (before ++ Some key ∷ []) ≡ count_of g before + 0 = count_more g before (Some key) ∙ ap (λ b. count_of g before + cond b 1 0) t in
      ap (λ o. unwrap_or o 0) now ∙ are g ∙ omega (arith, one)
] refl

-- ---- the last places
module _ (groups : List (Option Group)) (n : ℕ) where
  -- a place of another group, or of none, is passed by
  passed : (g : Group) (o : Option ℕ) → ¬ IsGiven groups g n → IsLastIfAny groups n g o → IsLastIfAny groups (n + 1) g o
  passed g None other h = λ i lt at. elim (cases_lt i n) [
    | inl less ↦ h i less at
    | inr more ↦ let same : i ≡ n = omega (arith, lt, more) in other (subst (IsGiven groups g) same at)
  ]
  passed g (Some p) other h = record {
    here = h.here;
    before = let lt = h.before in omega (arith, lt);
    none_after = λ i after lt at. elim (cases_lt i n) [
      | inl less ↦ h.none_after i after less at
      | inr more ↦ let same : i ≡ n = omega (arith, lt, more) in other (subst (IsGiven groups g) same at)
    ];
  }

  -- the place itself is the last
  itself_last : (g : Group) → IsGiven groups g n → IsLast groups (n + 1) g n
  itself_last g here = record { here = here; before = omega arith; none_after = λ i after lt. absurd (omega (arith, after, lt)) }

  pub last_none : (latest : BTreeMap Group ℕ) → slice_get groups n ≡ Some None → AreLast groups n latest → AreLast groups (n + 1) latest
  last_none latest none are g = passed g (kept_for latest g) (none_given groups n g none) (are g)

  pub last_more :
      (key : Group) (old new : BTreeMap Group ℕ) → slice_get groups n ≡ Some (Some key) →
      ((q : Group) → kept_for new q ≡ cond (is_at (derived.ghosts.cmp key) q) (Some n) (kept_for old q)) → AreLast groups n old → AreLast groups (n + 1) new
  last_more key old new here updates are g = elim (is_at (derived.ghosts.cmp key) g) as (λ b. is_at (derived.ghosts.cmp key) g ≡ b → IsLastIfAny groups (n + 1) g (kept_for new g)) [
    | true ↦ λ t.
        let same : key ≡ g = tied_is exact key g t in
        let now : kept_for new g ≡ Some n = updates g ∙ ap (λ b. cond b (Some n) (kept_for old g)) t in
        subst (IsLastIfAny groups (n + 1) g) (sym now) (itself_last g (subst (λ z. IsGiven groups z n) same here))
    | false ↦ λ t.
        let now : kept_for new g ≡ kept_for old g = updates g ∙ ap (λ b. cond b (Some n) (kept_for old g)) t in
        let other : ¬ IsGiven groups g n = λ at. let same : key ≡ g = one_given groups n key g here at in true≢false (sym (itself laws.total-law exact key) ∙ ap (λ z. is_at (derived.ghosts.cmp key) z) same ∙ t) in
        subst (IsLastIfAny groups (n + 1) g) (sym now) (passed g (kept_for old g) other (are g))
  ] refl

-- ---- one link after another
pub no_links : (groups : List (Option Group)) (latest : BTreeMap Group ℕ) → latest.entries ≡ [] → AreLinked groups 0 latest []
no_links groups latest empty = record {
  size = refl;
  last = λ g. subst (IsLastIfAny groups 0 g) (sym (ap (λ es. lookup (is_at (derived.ghosts.cmp g)) es) empty)) (λ i lt. absurd (omega (arith, lt)));
  links = λ i g lt. absurd (omega (arith, lt));
}

pub link_more :
    (groups : List (Option Group)) (n : ℕ) (old new : BTreeMap Group ℕ) (earlier : List (Option ℕ)) (o : Option Group) (last : Option ℕ) → slice_get groups n ≡ Some o →
    ((g : Group) → o ≡ Some g → last ≡ kept_for old g) → (AreLast groups n old → AreLast groups (n + 1) new) → AreLinked groups n old earlier → AreLinked groups (n + 1) new (earlier ++ last ∷ [])
link_more groups n old new earlier o last here was goes are = record {
  size = let size = are.size in let more = size_more earlier last in omega (arith, size, more);
  last = goes are.last;
  links = λ i g lt at. elim (cases_lt i n) [
    | inl less ↦
        let size = are.size in
        subst (IsLastIfAny groups i g) (sym (get_or_append_left earlier (last ∷ []) None i (omega (arith, less, size)))) (are.links i g less at)
    | inr more ↦
        let same : n ≡ i = omega (arith, lt, more) in
        let at_n : IsGiven groups g n = subst (IsGiven groups g) (sym same) at in
        let is : last ≡ kept_for old g = was g (same_Some o (Some g) (sym here ∙ at_n)) in
        let read : get_or (earlier ++ last ∷ []) n None ≡ last = let size = are.size in get_or-append_right earlier (last ∷ []) n n None size (omega arith) ∙ ap (λ k. get_or (last ∷ []) k None) (less_itself n) in
        subst (λ k. IsLastIfAny groups k g (get_or (earlier ++ last ∷ []) k None)) same (subst (IsLastIfAny groups n g) (sym (read ∙ is)) (are.last g))
  ];
}
  where
    size_more : (xs : List (Option ℕ)) (x : Option ℕ) → length (xs ++ x ∷ []) ≡ length xs + 1
    size_more [] x = refl
    size_more (y ∷ xs) x = let rest = size_more xs x in omega (arith, rest)

    less_itself : (k : ℕ) → k - k ≡ 0
    less_itself k = omega arith

pub all_linked : (groups : List (Option Group)) (latest : BTreeMap Group ℕ) (earlier : List (Option ℕ)) → AreLinked groups (length groups) latest earlier → AreEarlier groups earlier
all_linked groups latest earlier are i g at = are.links i g (slice_get_within groups i (Some g) at) at
