-- A merge of two tables in key order, as far as it has come.
use Rattle.std.proofs.Common.{◌≡◌, inl, inr, refl, sym, subst, ap, ◌∙◌, arith, ℕ, zero, suc, ◌+◌, ◌<◌, ◌≤◌, List, [], ◌∷◌, ◌++◌, length, slice_get, Some}
use Rattle.std.specs.Cmp.{IsTotalOrder}
use Rattle.std.specs.List.{AllByRecursion}
use Rattle.std.specs.List.Sorted.{IsStrictlySortedBy}
use Rattle.std.specs.FinMap.{IsAntisymmetric}
use Rattle.std.specs.Ordering.{ordering_reverse}
use Rattle.std.specs.declared.cmp.Ordering.{Ordering}
use Rattle.std.specs.declared.cmp.Ordering.TheVariants.{Less, Equal, Greater}
use Rattle.std.proofs.lemmas.Bool.{cases_lt, cases_eq}
use Rattle.std.proofs.lemmas.Cmp.{tied_itself}
use Rattle.std.proofs.lemmas.Option.{slice_get_within}
use Rattle.row_differences.specs.Differences.{AreDifferences, HaveOneKey, IsChanged, IsGone}
use Rattle.row_differences.specs.Fronts.{IsFirst}
use Rattle.row_differences.proofs.Numbers.{AreSoFar, so_far_none, so_far_taken, so_far_passed, so_far_done}

same_at : {K : Type 0} (ks : List K) (i : ℕ) (k l : K) → slice_get ks i ≡ Some k → slice_get ks i ≡ Some l → k ≡ l
same_at ks i k l e f = let s : Some k ≡ Some l = sym e ∙ f in cc

all_at : {K : Type 0} (P : K → Type 0) (ks : List K) (i : ℕ) (k : K) → AllByRecursion P ks → slice_get ks i ≡ Some k → P k
all_at P [] i k all e = cc
all_at P (x ∷ ks) zero k all e = let same : x ≡ k = cc in subst P same all.0
all_at P (x ∷ ks) (suc i) k all e = all_at P ks i k all.1 e

-- at each index within there is a key
pub key_within : {K : Type 0} (ks : List K) (i : ℕ) → i < length ks → (k : K) × (slice_get ks i ≡ Some k)
key_within [] i lt = absurd (omega (arith, lt))
key_within (x ∷ ks) zero lt = (x, refl)
key_within (x ∷ ks) (suc i) lt = key_within ks i (omega (arith, lt))

-- of two keys in ascending order the earlier one is the lower
pub lower : {K : Type 0} (R : K → K → Ordering) (ks : List K) (i j : ℕ) (k l : K) → IsStrictlySortedBy R ks → i < j → slice_get ks i ≡ Some k → slice_get ks j ≡ Some l → R k l ≡ Less
unfolding IsStrictlySortedBy
lower R [] i j k l up lt e f = cc
lower R (x ∷ ks) i zero k l up lt e f = absurd (omega (arith, lt))
lower R (x ∷ ks) zero (suc j) k l up lt e f = let same : x ≡ k = cc in subst (λ z. R z l ≡ Less) same (all_at (λ z. R x z ≡ Less) ks j l up.0 f)
lower R (x ∷ ks) (suc i) (suc j) k l up lt e f = lower R ks i j k l up.1 (omega (arith, lt)) e f

-- the rows below old and new are passed: each comes before all that is left of the other table
pub record IsMergedTo {K : Type 0} (R : K → K → Ordering) (before after : List K) (IsAlike : ℕ → ℕ → Type 0) (old new : ℕ) (changed gone : List ℕ) : Type 0 where
  pub within_before : old ≤ length before
  pub within_after : new ≤ length after
  pub changed_so_far : AreSoFar (IsChanged before after IsAlike) new changed
  pub gone_so_far : AreSoFar (IsGone before after) old gone
  pub below : (i j : ℕ) (k l : K) → i < old → new ≤ j → slice_get before i ≡ Some k → slice_get after j ≡ Some l → R k l ≡ Less
  pub above : (i j : ℕ) (k l : K) → old ≤ i → j < new → slice_get before i ≡ Some k → slice_get after j ≡ Some l → R l k ≡ Less

module _ {K : Type 0} {R : K → K → Ordering} (o : IsTotalOrder R) where
  not_below_itself : (k : K) → R k k ≡ Less → ⊥
  not_below_itself k h = let e : Less ≡ Equal = sym h ∙ tied_itself o k in cc

  -- a key that is below the next one is below all that are left
  first_by_next : (ks ls : List K) (i j : ℕ) (k l : K) → IsStrictlySortedBy R ls → slice_get ks i ≡ Some k → slice_get ls j ≡ Some l → R k l ≡ Less → IsFirst R ks ls i j
  first_by_next ks ls i j k l up e f less = (
    k,
    e,
    λ n m le at. elim (cases_eq j n) [
      | inl same ↦ subst (λ z. R k z ≡ Less) (same_at ls j l m f (subst (λ x. slice_get ls x ≡ Some m) (sym same) at)) less
      | inr other ↦ o.trans k l m less (lower R ls j n l m up (omega (arith, le, other)) f at)
    ],
  )

  -- where no key is left, each is below all that are left
  pub first_by_end : (ks ls : List K) (i j : ℕ) → length ls ≤ j → i < length ks → IsFirst R ks ls i j
  first_by_end ks ls i j end lt = let (k, e) = key_within ks i lt in (k, e, λ n m le at. let within = slice_get_within ls n m at in absurd (omega (arith, end, le, within)))

  -- what the order of two next keys says of them
  module _ (before after : List K) (up_before : IsStrictlySortedBy R before) (up_after : IsStrictlySortedBy R after) (old new : ℕ) (within_before : old < length before) (within_after : new < length after)
      (order : Ordering) (told : (k l : K) → slice_get before old ≡ Some k → slice_get after new ≡ Some l → order ≡ R k l) where
    pub first_before : order ≡ Less → IsFirst R before after old new
    first_before is =
        let (k, e) = key_within before old within_before in
        let (l, f) = key_within after new within_after in
        first_by_next before after old new k l up_after e f (sym (told k l e f) ∙ is)

    pub one_key : IsAntisymmetric R → order ≡ Equal → HaveOneKey before after old new
    one_key exact is =
        let (k, e) = key_within before old within_before in
        let (l, f) = key_within after new within_after in
        (k, e, f ∙ ap Some (sym (exact k l (sym (told k l e f) ∙ is))))

    pub first_after : order ≡ Greater → IsFirst R after before new old
    first_after is =
        let (k, e) = key_within before old within_before in
        let (l, f) = key_within after new within_after in
        first_by_next after before new old l k up_before f e (o.antisymm l k ∙ ap ordering_reverse (sym (told k l e f) ∙ is))

  module _ (before after : List K) (IsAlike : ℕ → ℕ → Type 0) (up_before : IsStrictlySortedBy R before) (up_after : IsStrictlySortedBy R after) where
    pub begun : IsMergedTo R before after IsAlike 0 0 [] []
    begun = record {
      within_before = omega arith;
      within_after = omega arith;
      changed_so_far = so_far_none (IsChanged before after IsAlike);
      gone_so_far = so_far_none (IsGone before after);
      below = λ i j k l lt le e f. absurd (omega (arith, lt));
      above = λ i j k l le lt e f. absurd (omega (arith, lt));
    }

    module _ (old new : ℕ) (changed gone : List ℕ) (h : IsMergedTo R before after IsAlike old new changed gone) where
      gone_at : IsFirst R before after old new → IsGone before after old
      gone_at (k, e, less) = (
        slice_get_within before old k e,
        λ j one. elim (cases_lt j new) [
          | inl lt ↦ not_below_itself one.0 (h.above old j one.0 one.0 (omega arith) lt one.1 one.2)
          | inr ge ↦ not_below_itself one.0 (subst (λ z. R z one.0 ≡ Less) (same_at before old k one.0 e one.1) (less j one.0 ge one.2))
        ],
      )

      pub passed_gone : IsFirst R before after old new → IsMergedTo R before after IsAlike (old + 1) new changed (gone ++ old ∷ [])
      passed_gone (k, e, less) = let within = slice_get_within before old k e in record {
        within_before = omega (arith, within);
        within_after = h.within_after;
        changed_so_far = h.changed_so_far;
        gone_so_far = so_far_taken (IsGone before after) old gone h.gone_so_far (gone_at (k, e, less));
        below = λ i j m l lt le at to. elim (cases_lt i old) [
          | inl earlier ↦ h.below i j m l earlier le at to
          | inr ge ↦ let same : i ≡ old = omega (arith, lt, ge) in subst (λ z. R z l ≡ Less) (same_at before old k m e (subst (λ x. slice_get before x ≡ Some m) same at)) (less j l le to)
        ];
        above = λ i j m l le lt at to. h.above i j m l (omega (arith, le)) lt at to;
      }

      changed_at : IsFirst R after before new old → IsChanged before after IsAlike new
      changed_at (l, f, less) = (
        slice_get_within after new l f,
        λ i one alike. elim (cases_lt i old) [
          | inl lt ↦ not_below_itself one.0 (h.below i new one.0 one.0 lt (omega arith) one.1 one.2)
          | inr ge ↦ not_below_itself one.0 (subst (λ z. R z one.0 ≡ Less) (same_at after new l one.0 f one.2) (less i one.0 ge one.1))
        ],
      )

      pub passed_new : IsFirst R after before new old → IsMergedTo R before after IsAlike old (new + 1) (changed ++ new ∷ []) gone
      passed_new (l, f, less) = let within = slice_get_within after new l f in record {
        within_before = h.within_before;
        within_after = omega (arith, within);
        changed_so_far = so_far_taken (IsChanged before after IsAlike) new changed h.changed_so_far (changed_at (l, f, less));
        gone_so_far = h.gone_so_far;
        below = λ i j k m lt le at to. h.below i j k m lt (omega (arith, le)) at to;
        above = λ i j k m le lt at to. elim (cases_lt j new) [
          | inl earlier ↦ h.above i j k m le earlier at to
          | inr ge ↦ let same : j ≡ new = omega (arith, lt, ge) in subst (λ z. R z k ≡ Less) (same_at after new l m f (subst (λ x. slice_get after x ≡ Some m) same to)) (less i k le at)
        ];
      }

      -- a row before that has the key of the row at new after is the one at old
      only_at : HaveOneKey before after old new → (i : ℕ) → HaveOneKey before after i new → i ≡ old
      only_at one i other =
          let k : other.0 ≡ one.0 = same_at after new other.0 one.0 other.2 one.2 in
          let at : slice_get before i ≡ Some one.0 = other.1 ∙ ap Some k in
          elim (cases_lt i old) [
            | inl lt ↦ absurd (not_below_itself one.0 (lower R before i old one.0 one.0 up_before lt at one.1))
            | inr ge ↦ elim (cases_lt old i) [
              | inl gt ↦ absurd (not_below_itself one.0 (lower R before old i one.0 one.0 up_before gt one.1 at))
              | inr le ↦ omega (arith, ge, le)
            ]
          ]

      passed_both : HaveOneKey before after old new → (later : List ℕ) → AreSoFar (IsChanged before after IsAlike) (new + 1) later → IsMergedTo R before after IsAlike (old + 1) (new + 1) later gone
      passed_both (k, e, f) later so_far =
          let old_within = slice_get_within before old k e in
          let new_within = slice_get_within after new k f in
          record {
            within_before = omega (arith, old_within);
            within_after = omega (arith, new_within);
            changed_so_far = so_far;
            gone_so_far = so_far_passed (IsGone before after) old gone h.gone_so_far (λ away. away.1 new (k, e, f));
            below = λ i j m l lt le at to. elim (cases_lt i old) [
              | inl earlier ↦ h.below i j m l earlier (omega (arith, le)) at to
              | inr ge ↦
                  let same : i ≡ old = omega (arith, lt, ge) in
                  subst (λ z. R z l ≡ Less) (same_at before old k m e (subst (λ x. slice_get before x ≡ Some m) same at)) (lower R after new j k l up_after (omega (arith, le)) f to)
            ];
            above = λ i j m l le lt at to. elim (cases_lt j new) [
              | inl earlier ↦ h.above i j m l (omega (arith, le)) earlier at to
              | inr ge ↦
                  let same : j ≡ new = omega (arith, lt, ge) in
                  subst (λ z. R z m ≡ Less) (same_at after new k l f (subst (λ x. slice_get after x ≡ Some l) same to)) (lower R before old i k m up_before (omega (arith, le)) e at)
            ];
          }

      pub passed_alike : HaveOneKey before after old new → IsAlike old new → IsMergedTo R before after IsAlike (old + 1) (new + 1) changed gone
      passed_alike one alike = passed_both one changed (so_far_passed (IsChanged before after IsAlike) new changed h.changed_so_far (λ is. is.1 old one alike))

      pub passed_changed : HaveOneKey before after old new → ¬ IsAlike old new → IsMergedTo R before after IsAlike (old + 1) (new + 1) (changed ++ new ∷ []) gone
      passed_changed one differ =
          let within = slice_get_within after new one.0 one.2 in
          passed_both one (changed ++ new ∷ []) (so_far_taken (IsChanged before after IsAlike) new changed h.changed_so_far
          (within, λ i other alike. differ (subst (λ x. IsAlike x new) (only_at one i other) alike)))

      pub merged : length before ≤ old → length after ≤ new → AreDifferences before after IsAlike changed gone
      merged end_before end_after = record {
        changed_ascend = h.changed_so_far.ascend;
        has_changed = so_far_done (IsChanged before after IsAlike) new changed h.changed_so_far (λ m is. omega (arith, is.0, end_after));
        gone_ascend = h.gone_so_far.ascend;
        has_gone = so_far_done (IsGone before after) old gone h.gone_so_far (λ m is. omega (arith, is.0, end_before));
      }
