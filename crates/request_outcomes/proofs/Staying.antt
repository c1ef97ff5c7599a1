-- Which occurrences stay where what is over leaves.
use Rattle.std.proofs.Common.{◌≡◌, ◌↔◌, inl, inr, refl, sym, ap, subst, ◌∙◌, arith, true≢false, append-nil, ℕ, ◌+◌, ◌<◌, Bool, true, false, not, cond, List, [], ◌∷◌, ◌++◌, length, take, drop, map, get_or, slice_get, Contains, Option, Some, None, is_some, Decides}
use Rattle.std.proofs.lemmas.List.{append_assoc, drop_more}
use Rattle.std.proofs.lemmas.List.Elements.{filter_more}
use Rattle.std.proofs.lemmas.Option.{get_or_from_slice_get, slice_get_within}
use Rattle.std.specs.FinMap.{contains_key, entries, get, from_entries}
use Rattle.std.specs.List.{filter}
use Rattle.std.specs.List.Sorted.{IsStrictlySortedBy}
use Rattle.std.specs.Map.{keys_of}
use Rattle.plan_basics.specs.Keys.{occurrence_cmp, occurrence_cmp_total, occurrence_cmp-IsAntisymmetric}
use Rattle.plan_basics.specs.declared.keys.OccKey.{OccKey}
use Rattle.status_rules.specs.Classes.{is_over}
use Rattle.plan_records.specs.Changes.{IsOver}
use Rattle.plan_drafts.proofs.Tables.{get_row, is_found, row_found, rows_apart, some_is}
use Rattle.plan_model.proofs.Entries.{entries_are}
use Rattle.plan_model.specs.Contents.{Contents}
use Rattle.plan_model.specs.Status.{HasOccurrenceStatus}
use Rattle.plan_model.specs.Valid.{IsValid}
use Rattle.plan_model.specs.declared.Occurrence.{Occurrence}
use Rattle.small_requests.specs.plan_laws.proofs.LeftGraph.{from_kept, in_kept}
use Rattle.small_requests.specs.plan_laws.proofs.Waiting.{one_occurrence_status}
use Rattle.small_requests.specs.counted_records.proofs.LeftRows.{passed_in_order}
use Rattle.small_requests.specs.counted_records.specs.Leaving.{is_one_of}
use Rattle.status_rules.specs.declared.OccStatus.{OccStatus}
use Rattle.status_rules.specs.declared.OccStatus.TheVariants as occurrence

-- ---- by its status

-- an occurrence of another status is neither complete nor deleted
not_over : (P : Contents) (c : OccKey) (s : OccStatus) → HasOccurrenceStatus P c s → (s ≡ occurrence.Complete → ⊥) → (s ≡ occurrence.Deleted → ⊥) → ¬ IsOver P c
not_over P c s has complete deleted (inl over) = complete (one_occurrence_status P c s occurrence.Complete has over)
not_over P c s has complete deleted (inr over) = deleted (one_occurrence_status P c s occurrence.Deleted has over)

pub stays_told : (P : Contents) (c : OccKey) (s : OccStatus) → HasOccurrenceStatus P c s → Decides (not (is_over s)) (¬ IsOver P c)
stays_told P c occurrence.Complete has = (λ e. absurd (true≢false (sym e)), λ never. absurd (never (inl has)))
stays_told P c occurrence.Deleted has = (λ e. absurd (true≢false (sym e)), λ never. absurd (never (inr has)))
stays_told P c s has = (λ _. not_over P c s has (λ e. cc) (λ e. cc), λ _. refl)

-- what isn't there has no operation that isn't deleted
pub absent_is_over : (P : Contents) → IsValid P → (c : OccKey) → get P.occurrences c ≡ None → IsOver P c
absent_is_over P valid c none = inr (
  λ o same there. absurd (true≢false (sym (valid.occurrences.each_operation o there.0 there.1).1 ∙ ap (contains_key P.occurrences) same ∙ ap is_some none)),
  λ t less. absurd (omega (arith, less)),
)

pub absent_told : (P : Contents) → IsValid P → (c : OccKey) → get P.occurrences c ≡ None → Decides false (¬ IsOver P c)
absent_told P valid c none = (λ e. absurd (true≢false (sym e)), λ never. absurd (never (absent_is_over P valid c none)))

-- ---- the rows so far of which a test is true

module _ {X : Type 0} (p : X → Bool) (rows : List X) (i : ℕ) (row : X) (lt : i < length rows) (is : row ≡ get_or rows i row) where
  one_more : filter p (take (i + 1) rows) ≡ filter p (take i rows) ++ filter p (row ∷ [])
  one_more = filter_more p rows i row lt ∙ ap (λ r. filter p (take i rows) ++ filter p (r ∷ [])) (sym is)

  pub passes : (found : List X) → found ≡ filter p (take i rows) → p row ≡ true → found ++ row ∷ [] ≡ filter p (take (i + 1) rows)
  passes found so_far h = ap (λ ks. ks ++ row ∷ []) so_far ∙ ap (λ b. filter p (take i rows) ++ cond b (row ∷ []) []) (sym h) ∙ sym one_more

  pub fails : (found : List X) → found ≡ filter p (take i rows) → p row ≡ false → found ≡ filter p (take (i + 1) rows)
  fails found so_far h = so_far ∙ sym (append-nil (filter p (take i rows))) ∙ ap (λ b. filter p (take i rows) ++ cond b (row ∷ []) []) (sym h) ∙ sym one_more

-- a test that says which occurrences stay
abbrev pub IsStaying : Contents → (OccKey → Bool) → Type 0
IsStaying P stays = (c : OccKey) → (stays c ≡ true) ↔ ¬ IsOver P c

pub passes_by : (P : Contents) (stays : OccKey → Bool) → IsStaying P stays → (c : OccKey) (b : Bool) → Decides b (¬ IsOver P c) → b ≡ true → stays c ≡ true
passes_by P stays are c b told so = (are c).1 (told.0 so)

pub fails_by : (P : Contents) (stays : OccKey → Bool) → IsStaying P stays → (c : OccKey) (b : Bool) → Decides b (¬ IsOver P c) → b ≡ false → stays c ≡ false
fails_by P stays are c b told so = by (stays c) refl
  where
    by : (t : Bool) → stays c ≡ t → stays c ≡ false
    by false e = e
    by true e = absurd (true≢false (sym (told.1 ((are c).0 e)) ∙ so))

-- ---- the occurrences that stay

module _ (P : Contents) (valid : IsValid P) (stays : OccKey → Bool) (are : IsStaying P stays) (rows : List (OccKey × Occurrence)) (is : rows ≡ filter (λ (row : OccKey × Occurrence). stays row.0) (entries P.occurrences)) where
  pub stay_in_order : IsStrictlySortedBy occurrence_cmp (keys_of rows)
  stay_in_order = subst (λ (rs : List (OccKey × Occurrence)). IsStrictlySortedBy occurrence_cmp (keys_of rs)) (sym is) (passed_in_order occurrence_cmp_total occurrence_cmp-IsAntisymmetric P.occurrences stays)

  is_known : (c : OccKey) → ¬ IsOver P c → (x : Option Occurrence) → get P.occurrences c ≡ x → is_some x ≡ true
  is_known c never (Some x) e = refl
  is_known c never None e = absurd (never (absent_is_over P valid c e))

  pub stay_by_rows : (c : OccKey) → (is_one_of rows c ≡ true) ↔ ¬ IsOver P c
  stay_by_rows c = (
    λ one.
        let found = is_found (get {R = occurrence_cmp} (from_entries rows) c) one in
        let has : Contains (filter (λ (row : OccKey × Occurrence). stays row.0) (entries P.occurrences)) (c, found.0) = subst (λ (rs : List (OccKey × Occurrence)). Contains rs (c, found.0)) is (row_found occurrence_cmp_total occurrence_cmp-IsAntisymmetric rows c found.0 found.1) in
        (are c).0 (from_kept (λ (row : OccKey × Occurrence). stays row.0) (entries P.occurrences) (c, found.0) has).0,
    λ never.
        let found = is_found (get P.occurrences c) (is_known c never (get P.occurrences c) refl) in
        let listed : Contains (entries P.occurrences) (c, found.0) = row_found occurrence_cmp_total occurrence_cmp-IsAntisymmetric (entries P.occurrences) c found.0 (ap (λ m. get m c) (entries_are occurrence_cmp occurrence_cmp_total occurrence_cmp-IsAntisymmetric P.occurrences) ∙ found.1) in
        let has = subst (λ (rs : List (OccKey × Occurrence)). Contains rs (c, found.0)) (sym is) (in_kept (λ (row : OccKey × Occurrence). stays row.0) (entries P.occurrences) (c, found.0) ((are c).1 never) listed) in
        some_is (get {R = occurrence_cmp} (from_entries rows) c) found.0 (get_row occurrence_cmp_total occurrence_cmp-IsAntisymmetric rows c found.0 (rows_apart occurrence_cmp_total occurrence_cmp-IsAntisymmetric rows stay_in_order) has),
  )

-- ---- what is so of keys, one after the other

-- what is made of the keys so far, with one more, and of those that are left is made of all
pub made_on : {X Y : Type 0} (f : X → Y) (ks : List X) (made : List Y) (i : ℕ) (k : X) (y : Y) → slice_get ks i ≡ Some k → y ≡ f k → made ++ map f (drop i ks) ≡ map f ks → (made ++ y ∷ []) ++ map f (drop (i + 1) ks) ≡ map f ks
made_on f ks made i k y at same so_far =
    append_assoc made (y ∷ []) (map f (drop (i + 1) ks))
    ∙ ap (λ z. made ++ z ∷ map f (drop (i + 1) ks)) (same ∙ ap f (sym (get_or_from_slice_get ks i k k at)))
    ∙ ap (λ xs. made ++ map f xs) (sym (drop_more ks i k (slice_get_within ks i k at)))
    ∙ so_far
